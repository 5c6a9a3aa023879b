-- An input that a server took, as an event of the world.
use Rattle.std.proofs.Common.{◌≡◌, ℕ, inl, inr, max, Some, Result, Ok, [], ◌∷◌, ◌++◌, length, refl, sym, ap, ◌∙◌, subst, slice_get, slice_set}
use Rattle.std.specs.List.{AllZip}
use Rattle.rows.specs.declared.refusal.Refusal.{Refusal}
use Rattle.machine_model.specs.MachineSpec.{MachineSpec}
use Rattle.raft_model.specs.Rafts.{Raft, RaftTurn}
use Rattle.raft_model.specs.Steps.{Input, step}
use Rattle.raft_model.specs.Worlds.{World, Event, Run, more, IsEvent, happens, takes, after_turn}
use Rattle.raft_core.specs.RaftView.{RaftView}
use Rattle.raft_core.specs.Frames.{FrameCarries}
use Rattle.raft_core.specs.Steps.{RefinesRaft, Steps}
use Rattle.raft_safety.specs.Claims.{IsGreatestCommit}
use Rattle.raft_safety.proofs.Places.{get_set-cases, set-length}
use Rattle.world.specs.Inner.Inputs.{committed}
use Rattle.rows.specs.GroupSizes.{IsGroup}
use Rattle.world.specs.WorldView.{WorldView, RefinesWorld, Numbered, IsRaftWorld}
use Rattle.world.specs.Steps.{EventHappened}
use Rattle.world.proofs.Zips.{zip_length, zip_set, zip_append}
use Rattle.world.proofs.Heights.{height_next}

module _ {S C : Type 0} (m : MachineSpec S C) where
  -- what a server's step makes of the world
  pub took : (w : World C) (i : ℕ) (x : Input C) (s : Raft C) (r : Result (RaftTurn C) Refusal) → slice_get w.servers i ≡ Some s → step m (length w.servers) i s x ≡ r → takes m w i x ≡ after_turn m w i r
  took w i x s r here is = rw here (ap (λ q. after_turn m w i q) is)

-- server i, which is h, takes the event, and is h2 then
module _ {S C : Type 0} (m : MachineSpec S C) (old new : WorldView S C) (e : Event C) (i : ℕ) (h h2 : RaftView S C)
    (numbered : Numbered old) (here : slice_get old.servers i ≡ Some h)
    (servers : new.servers ≡ slice_set old.servers i h2) where
  -- the world after the step, and that the event leads there
  pub record Moved (w : World C) (turn : RaftTurn C) : Type 0 where
    pub server : Raft C
    pub next : World C
    pub at : slice_get w.servers i ≡ Some server
    pub list : next.servers ≡ slice_set w.servers i turn.server
    pub happens : happens m w e ≡ Ok next
    pub refines : RefinesRaft m h2 turn.server
    pub world : RefinesWorld m new next

  pub count_kept : length new.servers ≡ length old.servers
  count_kept = ap length servers ∙ set-length old.servers i h2

  pub moved : (w : World C) (st : RefinesWorld m old w) (s : Raft C) (x : Input C) → slice_get w.servers i ≡ Some s → happens m w e ≡ takes m w i x → (t : Steps m h s x h2 old.sent new.sent) → Moved w t.turn
  moved w st s x at feed t =
      let n = numbered i h here in
      let size : h.size ≡ length w.servers = n.1 ∙ zip_length (RefinesRaft m) old.servers w.servers st.servers in
      let stepped : step m (length w.servers) i s x ≡ Ok t.turn = subst (λ (k : ℕ). step m k i s x ≡ Ok t.turn) size (subst (λ (j : ℕ). step m h.size j s x ≡ Ok t.turn) n.0 t.step) in
      let next : World C = record { servers = slice_set w.servers i t.turn.server; sent = w.sent ++ t.turn.sent } in
      record {
        server = s;
        next = next;
        at = at;
        list = refl;
        happens = feed ∙ took m w i x s (Ok t.turn) at stepped;
        refines = t.refines;
        world = record {
          servers = subst (λ l. AllZip (RefinesRaft m) l next.servers) (sym servers) (zip_set (RefinesRaft m) old.servers w.servers i h2 t.turn.server st.servers t.refines);
          sent = subst (λ l. AllZip (FrameCarries m) l next.sent) (sym t.sent.added) (zip_append (FrameCarries m) old.sent w.sent t.sent.frames t.turn.sent st.sent t.sent.carry);
        };
      }

  pub numbered_on : (h2.me ≡ h.me) × (h2.size ≡ h.size) → Numbered new
  numbered_on same j a at =
      let n = numbered i h here in
      elim (get_set-cases old.servers i h2 j a (subst (λ l. slice_get l j ≡ Some a) servers at)) [
        | inl q ↦ subst (λ (b : RaftView S C). (b.me ≡ j) × (b.size ≡ length new.servers)) q.1 (same.0 ∙ n.0 ∙ sym q.0, same.1 ∙ n.1 ∙ sym count_kept)
        | inr q ↦ let k = numbered j a q.1 in (k.0, k.1 ∙ sym count_kept)
      ]

  pub goes_by : IsEvent m e → new.trace ≡ old.trace ++ e ∷ [] → (move : (w : World C) → RefinesWorld m old w → (turn : RaftTurn C) × Moved w turn) →
      ((w : World C) (st : RefinesWorld m old w) → let q = move w st in new.chain ≡ max old.chain (committed q.0.server)) → EventHappened m old e new
  goes_by is trace move chain = record {
    size = count_kept;
    trace = trace;
    worlds = λ w st. let q = move w st in let a = q.1 in (a.next, a.happens, a.world);
    runs = λ past w r.
        let q = move w r.refines in
        let a = q.1 in
        let run : Run m (length old.servers) (old.trace ++ e ∷ []) (past ++ w ∷ []) a.next = more e a.next r.run is a.happens in
        let height : IsGreatestCommit (past ++ w ∷ []) a.next (max old.chain (committed q.0.server)) = height_next past w a.next i q.0.server old.chain a.server r.chain a.at a.list in (
          a.next,
          a.happens,
          record {
            run = subst (λ n. Run m n new.trace (past ++ w ∷ []) a.next) (sym count_kept) (subst (λ es. Run m (length old.servers) es (past ++ w ∷ []) a.next) (sym trace) run);
            refines = a.world;
            chain = subst (λ c. IsGreatestCommit (past ++ w ∷ []) a.next c) (sym (chain w r.refines)) height;
          },
        );
  }

-- what a value that was reached goes to is reached
pub reached_on : {S C : Type 0} (m : MachineSpec S C) (old new : WorldView S C) (e : Event C) → EventHappened m old e new → Numbered new → IsRaftWorld m old → IsRaftWorld m new
reached_on m old new e g n r =
    let q = g.runs r.past r.world r.runs in
    record { past = r.past ++ r.world ∷ []; world = q.0; runs = q.2; numbered = n; size = subst (λ k. IsGroup k) (sym g.size) r.size }
