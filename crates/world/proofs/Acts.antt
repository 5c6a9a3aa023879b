-- What an event did to a server and to what is kept beside the servers, as what it did to the
-- world.
use Rattle.std.proofs.Common.{◌≡◌, ◌≢◌, ℕ, zero, suc, ◌<◌, true, false, inl, inr, Some, Result, Ok, Err, IfOk, OnErr, IfErr, List, [], ◌∷◌, ◌++◌, length, append-nil, refl, sym, ap, ◌∙◌, subst, arith, slice_get, slice_set, get_or}
use Rattle.std.proofs.lemmas.Option.{same_Some, slice_get_read}
use Rattle.std.specs.List.{AllZip}
use Rattle.rows.specs.declared.refusal.Refusal.{Refusal}
use Rattle.rows.specs.declared.refusal.Refusal.TheVariants as refusals
use Rattle.machine_model.specs.MachineSpec.{MachineSpec}
use Rattle.wire.specs.Messages.{Message as WireMessage}
use Rattle.wire.specs.Frames.{MessageFits, message_at, message_text}
use Rattle.raft_model.specs.Messages.{Message}
use Rattle.raft_model.specs.Rafts.{Raft, RaftTurn, silent, is_up, crashed, restarted}
use Rattle.raft_model.specs.Steps.{Input, Arrives, Timeout, Beat, Propose, Compact, Crash, Restart, step}
use Rattle.raft_model.specs.Worlds.{World, Event, Deliver, TimesOut, Beats, Proposes, Compacts, Crashes, Restarts, Run, IsRestart}
use Rattle.raft_core.specs.RaftView.{RaftView}
use Rattle.raft_core.specs.Refusals.{refusal}
use Rattle.raft_core.specs.Steps.{RefinesRaft, Steps}
use Rattle.raft_safety.specs.Claims.{IsAmongMembers}
use Rattle.raft_safety.proofs.Places.{get-within}
use Rattle.world.specs.declared.done.Done.{Done}
use Rattle.world.specs.declared.done.Done.TheVariants as done
use Rattle.world.specs.WorldView.{WorldView, RefinesWorld, RunsTo, IsRaftWorld}
use Rattle.world.specs.Steps.{WasDone, LeftServer, SameWorld, OutOfMemoryMayEndFor, RefusesEvent}
use Rattle.world.specs.Inner.HistoryView.{HistoryView}
use Rattle.world.specs.Inner.Inputs.{ActsIn, IsSent, handed_by, is_restart}
use Rattle.world.specs.Inner.Parts.{IsForServer, PartTaken, PartCrashed, PartStays, IsPartRefused, PartDone}
use Rattle.world.proofs.Zips.{zip_at, zip_length}
use Rattle.world.proofs.Inputs.{WasSent, Brings, brings}
use Rattle.world.proofs.Taken.{took, Moved, moved, numbered_on, goes_by, reached_on}
use Rattle.world.proofs.Refused.{IsAddressed, refused_is}
use Rattle.world.proofs.Same.{same_set, same_reached}

set_here : {A : Type 0} (xs : List A) (i : ℕ) (x : A) → slice_get xs i ≡ Some x → slice_set xs i x ≡ xs
set_here [] i x h = refl
set_here (y ∷ xs) zero x h = let e : y ≡ x = cc in ap (λ z. z ∷ xs) (sym e)
set_here (y ∷ xs) (suc i) x h = ap (λ zs. y ∷ zs) (set_here xs i x h)

is_a_restart : {S C : Type 0} (m : MachineSpec S C) (e : Event C) → is_restart e ≡ true → IsRestart m e
is_a_restart m (Deliver k) h = absurd (cc)
is_a_restart m (TimesOut i) h = absurd (cc)
is_a_restart m (Beats i) h = absurd (cc)
is_a_restart m (Proposes i command) h = absurd (cc)
is_a_restart m (Compacts i) h = absurd (cc)
is_a_restart m (Crashes i) h = absurd (cc)
is_a_restart m (Restarts i) h = tt

abbrev pub history_of : {S C : Type 0} → WorldView S C → HistoryView C
history_of view = record { sent = view.sent; trace = view.trace; chain = view.chain }

-- what became of an event, of which the world says so
pub record Acted {S C : Type 0} (m : MachineSpec S C) (old : WorldView S C) (e : Event C) (result : Result Done Refusal) (new : WorldView S C) : Type 0 where
  pub ok : IfOk result (λ d. WasDone m old e d new)
  pub err : OnErr result (SameWorld old new)
  pub cause : IfErr result (λ r. r ≢ refusals.NoMemory → RefusesEvent m old e r)
  pub world : IsRaftWorld m new

-- the event is for server i, which is h
pub record At {S C : Type 0} (m : MachineSpec S C) (old : WorldView S C) (e : Event C) (i : ℕ) (h : RaftView S C) : Type 0 where
  pub reached : IsRaftWorld m old
  pub here : slice_get old.servers i ≡ Some h
  pub acts : ActsIn m old.sent e i

pub at_actor : {S C : Type 0} (m : MachineSpec S C) (old now : WorldView S C) (e : Event C) (i p : ℕ) (h : RaftView S C) → old ≡ now → IsRaftWorld m old → p ≡ i → i < length now.servers → h ≡ get_or old.servers p h → ActsIn m now.sent e i → At m old e i h
at_actor m old now e i p h same reached is inside got acts = record {
  reached = reached;
  here = slice_get_read old.servers _ i h refl (subst (λ (x : WorldView _ _). i < length x.servers) (sym same) inside) (subst (λ k. h ≡ get_or old.servers k h) is got);
  acts = subst (λ (x : WorldView _ _). ActsIn m x.sent e i) (sym same) acts;
}

module _ {S C : Type 0} (m : MachineSpec S C) (old : WorldView S C) (e : Event C) (i : ℕ) (h : RaftView S C) (a : At m old e i h) where
  pub size_is : h.size ≡ length old.servers
  size_is = let r = a.reached in let n = r.numbered i h a.here in n.1

  me_is : h.me ≡ i
  me_is = let r = a.reached in let n = r.numbered i h a.here in n.0

  -- the server of the world, and what the event is for it
  record Scene (w : World C) : Type 0 where
    server : Raft C
    at : slice_get w.servers i ≡ Some server
    refines : RefinesRaft m h server
    brings : Brings m old.sent w e i

  scene : (w : World C) → RefinesWorld m old w → Scene w
  scene w st =
      let s = zip_at (RefinesRaft m) old.servers w.servers i h st.servers a.here in
      record { server = s.0; at = s.1; refines = s.2; brings = brings m old.sent w e i st.sent (a.acts w st.sent) }

  pub is_for : IsSent old.sent e → IsForServer m h old.sent e
  is_for there =
      let r = a.reached in
      let runs = r.runs in
      let c = scene r.world runs.refines in
      let b = c.brings in
      record { inside = omega (arith, get-within old.servers i h a.here, size_is, me_is); there = there; input = b.input; reads = b.reads }

  module _ (h2 : RaftView S C) (new : WorldView S C) (servers : new.servers ≡ slice_set old.servers i h2) (same : (h2.me ≡ h.me) × (h2.size ≡ h.size)) where
    taken : PartTaken m h (history_of old) e h2 (history_of new) → Acted m old e (Ok done.Taken) new
    taken p =
        let move : (w : World C) → RefinesWorld m old w → (turn : RaftTurn C) × Moved m old new e i h h2 a.reached.numbered a.here servers w turn =
        λ w st. let c = scene w st in let b = c.brings in let t = p.taken c.server c.refines b.input b.reads in (t.turn, moved m old new e i h h2 a.reached.numbered a.here servers w st c.server b.input c.at b.takes t) in
        let happened = goes_by m old new e i h h2 a.reached.numbered a.here servers p.event p.trace move (λ w st. let q = move w st in let d = q.1 in p.chain q.0.server d.refines) in
        record { ok = happened; err = tt; cause = tt; world = reached_on m old new e happened (numbered_on m old new e i h h2 a.reached.numbered a.here servers same) a.reached }

    fallen : PartCrashed m h (history_of old) e i h2 (history_of new) → Acted m old e (Ok done.Crashed) new
    fallen p =
        let none : new.sent ≡ old.sent ++ [] = p.sent ∙ sym (append-nil old.sent) in
        let crash : (w : World C) (st : RefinesWorld m old w) → let c = scene w st in Steps m h c.server Crash h2 old.sent new.sent =
        λ w st. let c = scene w st in let l = p.fell c.server c.refines in record { turn = silent (crashed c.server); step = rw l.0 refl; refines = l.1; sent = record { frames = []; added = none; carry = tt } } in
        let move : (w : World C) → RefinesWorld m old w → (turn : RaftTurn C) × Moved m old new (Crashes i) i h h2 a.reached.numbered a.here servers w turn =
        λ w st. let c = scene w st in let t = crash w st in (t.turn, moved m old new (Crashes i) i h h2 a.reached.numbered a.here servers w st c.server Crash c.at refl t) in
        let happened = goes_by m old new (Crashes i) i h h2 a.reached.numbered a.here servers tt p.trace move (λ w st. omega (arith, p.chain)) in
        let lacking : (w : World C) (s : Raft C) → RefinesWorld m old w → slice_get w.servers i ≡ Some s → OutOfMemoryMayEndFor w e s =
        λ w s st at. let c = scene w st in let b = c.brings in let is : c.server ≡ s = same_Some c.server s (sym c.at ∙ at) in (b.input, b.is, b.wants s.mode (p.lacks s (subst (λ x. RefinesRaft m h x) is c.refines))) in
        record {
          ok = inl (record { who = i; actor = λ w st. a.acts w st.sent; lacking = lacking; happened = happened });
          err = tt;
          cause = tt;
          world = reached_on m old new (Crashes i) happened (numbered_on m old new (Crashes i) i h h2 a.reached.numbered a.here servers same) a.reached;
        }

    -- a server that is as it was leaves the world as it was
    as_it_was : h2 ≡ h → history_of new ≡ history_of old → new ≡ old
    as_it_was is past =
        let kept : new.servers ≡ old.servers = servers ∙ (ap (λ x. slice_set old.servers i x) is ∙ set_here old.servers i h a.here) in
        λ t. record { servers = kept t; sent = ap (λ (x : HistoryView C). x.sent) past t; trace = ap (λ (x : HistoryView C). x.trace) past t; chain = ap (λ (x : HistoryView C). x.chain) past t }

    -- one that is the same server leaves the same world
    same_but : LeftServer h h2 → history_of new ≡ history_of old → SameWorld old new
    same_but is past = record {
      servers = subst (λ l. AllZip LeftServer old.servers l) (sym servers) (same_set old.servers i h h2 (set_here old.servers i h a.here) is);
      sent = ap (λ (x : HistoryView C). x.sent) past;
      trace = ap (λ (x : HistoryView C). x.trace) past;
      chain = ap (λ (x : HistoryView C). x.chain) past;
    }

    stays : PartStays m h (history_of old) e h2 (history_of new) → Acted m old e (Ok done.Crashed) new
    stays p =
        let is : new ≡ old = as_it_was p.same_raft p.same_past in
        record {
          ok = inr (record {
            restart = is_a_restart m e p.restart;
            could = λ w st.
                let c = scene w st in
                let b = c.brings in
                let down : is_up c.server.mode ≡ false = p.down c.server c.refines in
                let stepped : step m (length w.servers) i c.server b.input ≡ Ok (silent (restarted c.server)) =
                subst (λ x. step m (length w.servers) i c.server x ≡ Ok (silent (restarted c.server))) (sym (b.wakes p.restart)) (rw down refl) in
                (record { servers = slice_set w.servers i (restarted c.server); sent = w.sent ++ [] }, b.takes ∙ took m w i b.input c.server (Ok (silent (restarted c.server))) c.at stepped);
            same = is;
          });
          err = tt;
          cause = tt;
          world = subst (λ x. IsRaftWorld m x) (sym is) a.reached;
        }

    module _ (again : (y : WireMessage S C) → MessageFits m y → message_at m (message_text m y) ≡ Ok y)
        (within : (n : ℕ) (events : List (Event C)) (past : List (World C)) (w : World C) → Run m n events past w → (k : ℕ) (x : Message C) → slice_get w.sent k ≡ Some x → IsAmongMembers n x) where
      addressed : (past : List (World C)) (w : World C) → RunsTo m old past w → (x : Input C) → WasSent w i x → IsAddressed h.size h.me x
      addressed past w run (Arrives x) came = let q = within (length old.servers) old.trace past w run.run came.0 x came.1 in (omega (arith, q.from, size_is), omega (arith, came.2, me_is))
      addressed past w run Timeout came = tt
      addressed past w run Beat came = tt
      addressed past w run (Propose command) came = tt
      addressed past w run Compact came = tt
      addressed past w run Crash came = tt
      addressed past w run Restart came = tt

      -- a server refuses what the definitions refuse
      refuses : (r : Refusal) → ((s : Raft C) → RefinesRaft m h s → refusal m h.size h.me s (handed_by old.sent e) ≡ Some r) → RefusesEvent m old e r
      refuses r says past w run =
          let c = scene w run.refines in
          let b = c.brings in
          let no_step : step m h.size h.me c.server b.input ≡ Err r = refused_is m h.size h.me again c.server (handed_by old.sent e) b.input r b.reads (addressed past w run b.input b.came) (says c.server c.refines) in
          let st = run.refines in
          let n : h.size ≡ length w.servers = size_is ∙ zip_length (RefinesRaft m) old.servers w.servers st.servers in
          let stepped : step m (length w.servers) i c.server b.input ≡ Err r =
          subst (λ (k : ℕ). step m k i c.server b.input ≡ Err r) n (subst (λ (j : ℕ). step m h.size j c.server b.input ≡ Err r) me_is no_step) in
          b.takes ∙ took m w i b.input c.server (Err r) c.at stepped

      caused : (r : Refusal) → IsPartRefused m h (history_of old) e r → r ≢ refusals.NoMemory → RefusesEvent m old e r
      caused refusals.NoMemory says other = absurd (other refl)
      caused _ says other = refuses _ says

      pub acted : (result : Result Done Refusal) → PartDone m h (history_of old) e i result h2 (history_of new) → Acted m old e result new
      acted (Ok done.Taken) p = taken p
      acted (Ok done.Crashed) p = elim p [ inl c ↦ fallen c | inr s ↦ stays s ]
      acted (Err r) p =
          let is : SameWorld old new = same_but p.0 p.1 in
          record { ok = tt; err = is; cause = caused r p.2; world = same_reached m old new is a.reached }

pub in_any_case : {T P : Type 0} (r : Result T Refusal) → P → IfErr r (λ e. e ≡ refusals.NoMemory → P)
in_any_case (Ok x) p = tt
in_any_case (Err e) p = λ _. p
