-- From a server that may be let stand to a group that is settled.
use Rattle.std.proofs.Common.{◌≡◌, ℕ, suc, ◌+◌, ◌*◌, ◌≤◌, inl, inr, true, false, Option, Some, None, List, [], ◌∷◌, ◌++◌, length, refl, sym, ap, ◌∙◌, subst, arith, slice_get, true≢false}
use Rattle.std.proofs.lemmas.Option.{same_Some}
use Rattle.rows.specs.GroupSizes.{IsGroup}
use Rattle.machine_model.specs.MachineSpec.{MachineSpec, LawfulMachine}
use Rattle.machine_model.specs.declared.entry.Entry.{Entry}
use Rattle.raft_model.specs.Rafts.{Raft, is_up, is_leader}
use Rattle.raft_model.specs.Chains.{Agree}
use Rattle.raft_model.specs.Worlds.{World, Event}
use Rattle.raft_safety.specs.Claims.{Limits}
use Rattle.raft_safety.proofs.Frame.{agree_self}
use Rattle.raft_safety.proofs.Places.{get-some, push_length}
use Rattle.raft_safety.proofs.WritingSteps.{agree_append}
use Rattle.raft_progress.specs.Recovery.{most_beats}
use Rattle.raft_progress.proofs.Moves.{Reached, reached_size, reached_limits}
use Rattle.raft_progress.proofs.Leaders.{leads_in}
use Rattle.recovery.specs.Runs.{up_there, Settles}
use Rattle.recovery.specs.Inner.Spreads.{SameUp, Once, Ready, Way, Chosen, Risen, SpreadDone, LedDone, ConfirmSoFar, AppliedDone, AllApplied, Leading}
use Rattle.recovery.proofs.Swaps.{once_self}
use Rattle.recovery.proofs.Spreads.{up_is}
use Rattle.recovery.proofs.Rounding.{rounding_start, rounding_more, rounds_apply}
use Rattle.recovery.proofs.Ways.{no_way, way_more}

module _ {S C : Type 0} (m : MachineSpec S C) (n i : ℕ) where
  -- it leads already
  pub led_already : (w : World C) → Ready n i w → (s : Raft C) → slice_get w.servers i ≡ Some s → is_leader s.mode ≡ true → LedDone m n i [] w w
  led_already w ready s here leads =
      let l = leads_in s.mode leads in
      record {
        up = λ k. refl;
        ready = ready;
        once = λ a b there then. subst (λ z. Once a z) (same_Some a b (sym there ∙ then)) (once_self a);
        term = s.term;
        leads = record { server = s; next = l.0; match = l.1; here = here; mode = l.2; term = refl };
        timeouts = 0;
        few = omega arith;
        way = no_way m i w;
      }

  -- it stood
  pub led_by : (w v : World C) (es : List (Event C)) (s : Raft C) → slice_get w.servers i ≡ Some s → is_leader s.mode ≡ false → SpreadDone m n i es w v → LedDone m n i es w v
  led_by w v es s here not d =
      let a = d.spread in
      elim (d.kind s here) [
        | inl k ↦ absurd (true≢false (sym k.0 ∙ not))
        | inr k ↦ record {
          up = a.up;
          ready = a.ready;
          once = a.once;
          term = a.term;
          leads = a.leads;
          timeouts = d.timeouts;
          few = omega (arith, k.1);
          way = subst (λ b. Way m i w es d.timeouts b v) k.2 d.way;
        }
      ]

  pub leading_then : (w v : World C) (es : List (Event C)) → LedDone m n i es w v → Leading n i v
  leading_then w v es d = record { ready = d.ready; term = d.term; leads = d.leads }

module _ {S C : Type 0} (m : MachineSpec S C) (law : LawfulMachine m) (n : ℕ) (two : 2 ≤ n) (i : ℕ) (w : World C) (r : Reached m n w) (leading : Leading n i w) where
  pub confirm_start : ConfirmSoFar m n i 0 [] w w
  confirm_start = record { rounding = rounding_start m law n two i w r leading.ready leading.term leading.leads; way = no_way m i w }

  module _ (k : ℕ) (es : List (Event C)) (x : World C) (a : ConfirmSoFar m n i k es w x) where
    pub confirm_more : (fs : List (Event C)) (v : World C) → SpreadDone m n i fs x v → ConfirmSoFar m n i (suc k) (es ++ fs) w v
    confirm_more fs v d =
        let g = a.rounding in
        let l = g.leads in
        let more = way_more m i w es 0 k x fs d.timeouts d.beats v a.way d.way in
        elim (d.kind l.server l.here) [
          | inr z ↦ absurd (true≢false (sym (ap is_leader l.mode) ∙ z.0))
          | inl z ↦
              let t : 0 + d.timeouts ≡ 0 = omega (arith, z.1) in
              let b : k + d.beats ≡ suc k = omega (arith, z.2) in
              record {
                rounding = rounding_more m law n two i w r leading.ready k x v g d.spread;
                way = subst (λ q. Way m i w (es ++ fs) q (suc k) v) t (subst (λ q. Way m i w (es ++ fs) (0 + d.timeouts) q v) b more);
              }
        ]

    -- so it may go on
    pub confirm_ready : Ready n i x
    confirm_ready = let g = a.rounding in g.ready

    pub confirm_done : ((s : Raft C) → slice_get w.servers i ≡ Some s → k ≤ 2 * length s.log + 2) → AllApplied i x → AppliedDone m i es w x
    confirm_done few all =
        let g = a.rounding in
        record { up = g.up; once = g.once; term = g.term; leads = g.leads; beats = k; few = few; way = a.way; applied = all }

    -- and in the end all is applied
    pub confirm_all : (s : Raft C) → slice_get w.servers i ≡ Some s → Reached m n x → 2 * length s.log + 2 ≤ k → AllApplied i x
    confirm_all s here rx many = rounds_apply m law n two i w r leading.ready k x s here rx a.rounding (omega (arith, many))

-- who is up is there
there_of : {C : Type 0} (o : Option (Raft C)) → up_there o ≡ true → (s : Raft C) × (o ≡ Some s)
there_of None h = absurd (cc)
there_of (Some s) h = (s, refl)

-- the bound of the whole
few_in_all : (n len z b : ℕ) → IsGroup n → z ≤ suc len → b ≤ 1 + (2 * z + 2) → b ≤ most_beats n len
few_in_all n len z b (inl e) short few = rw e (omega (arith, short, few))
few_in_all n len z b (inr e) short few = rw e (omega (arith, short, few))

module _ {S C : Type 0} (m : MachineSpec S C) (law : LawfulMachine m) (n : ℕ) (group : IsGroup n) (i : ℕ) (w : World C) (r : Reached m n w) (chosen : Chosen n i w) where
  module _ (es fs gs : List (Event C)) (x u v : World C) (rv : Reached m n v) (a : Risen m n i w es x) (b : LedDone m n i fs x u) (c : AppliedDone m i gs u v) where
    mine : (s : Raft C) × (slice_get w.servers i ≡ Some s)
    mine = get-some w.servers i (omega (arith, chosen.less, reached_size m n w r))

    same_up : SameUp w v
    same_up k = c.up k ∙ (b.up k ∙ a.up k)

    sx : (s : Raft C) × (slice_get x.servers i ≡ Some s)
    sx = there_of (slice_get x.servers i) (a.up i ∙ chosen.up)

    log_x : (sx.0).log ≡ (mine.0).log
    log_x = a.log mine.0 sx.0 mine.1 sx.1

    -- the log when it came to lead
    grown : Once sx.0 (let l = b.leads in l.server)
    grown = let l = b.leads in b.once sx.0 l.server sx.1 l.here

    short : length (let l = b.leads in l.server.log) ≤ suc (length (mine.0).log)
    short = elim grown [
      | inl o ↦ omega (arith, ap length o.0, ap length log_x)
      | inr o ↦ let e = o.2 in omega (arith, ap length e.1, push_length (sx.0).log e.0, ap length log_x)
    ]

    -- and in the end
    log_v : (let l = c.leads in l.server.log) ≡ (let l = b.leads in l.server.log)
    log_v =
        let lu = b.leads in
        let lv = c.leads in
        elim (c.once lu.server lv.server lu.here lv.here) [
          | inl o ↦ o.0
          | inr o ↦ absurd (true≢false (sym (ap is_leader lu.mode) ∙ o.0))
        ]

    keeps : Agree (length (mine.0).log) (mine.0).log (let l = c.leads in l.server.log)
    keeps = elim grown [
      | inl o ↦ subst (λ l. Agree (length (mine.0).log) (mine.0).log l) (sym (log_v ∙ (o.0 ∙ log_x))) (agree_self (mine.0).log)
      | inr o ↦
          let e = o.2 in
          subst (λ l. Agree (length (mine.0).log) (mine.0).log l) (sym (log_v ∙ (e.1 ∙ ap (λ (l : List (Entry C)). l ++ e.0 ∷ []) log_x)))
          (agree_append (length (mine.0).log) (mine.0).log (e.0 ∷ []) (omega arith))
    ]

    way : Way m i w (es ++ (fs ++ gs)) (a.timeouts + (b.timeouts + 0)) (a.beats + (0 + c.beats)) v
    way = way_more m i w es a.timeouts a.beats x (fs ++ gs) (b.timeouts + 0) (0 + c.beats) v a.way (way_more m i x fs b.timeouts 0 u gs 0 c.beats v b.way c.way)

    pub whole : Settles m n i (es ++ (fs ++ gs)) w v
    whole =
        let lu = b.leads in
        let l = c.leads in
        let limits : Limits l.server = reached_limits m n law v rv i l.server l.here in
        let all = c.applied l.server l.here in
        record {
          can = record {
            who = i;
            below = chosen.less;
            member = chosen.up;
            server = mine.0;
            here = mine.1;
            timeouts = a.timeouts + (b.timeouts + 0);
            beats = a.beats + (0 + c.beats);
            world = v;
            recovery = way.recovery;
            few_timeouts = omega (arith, a.few_timeouts, b.few);
            few_beats = few_in_all n (length (mine.0).log) (length lu.server.log) (a.beats + (0 + c.beats)) group short (omega (arith, a.few_beats, c.few lu.server lu.here));
            settled = record {
              server = l.server;
              here = l.here;
              next = l.next;
              match = l.match;
              mode = l.mode;
              whole = omega (arith, all i l.server l.here (ap is_up l.mode), limits.commit);
            };
            keeps = keeps;
            applied = λ j lo q.
                let up = same_up j ∙ q in
                let t = there_of (slice_get v.servers j) up in
                (t.0, t.1, up_is v j t.0 t.1 up, all j t.0 t.1 (up_is v j t.0 t.1 up));
          };
          who_is = refl;
          world_is = refl;
          taken_are = way.events;
        }
