-- What a ticket is to the runs of a world, and what a server's standing says of them.
use Rattle.std.proofs.Common.{◌≡◌, ◌≢◌, ℕ, suc, ◌-◌, ◌≤◌, ◌==◌, nat_lt, nat_le, inl, inr, Bool, true, false, Option, Some, None, Result, Ok, Err, if◌then◌else◌, List, [], ◌∷◌, ◌++◌, length, refl, sym, ap, ◌∙◌, subst, arith, slice_get, append_assoc}
use Rattle.std.proofs.lemmas.Bool.{ltb-false, leb-false, eqb-true, eqb-false}
use Rattle.std.proofs.lemmas.Option.{same_Some}
use Rattle.std.specs.Prelude.{IfOk, OnErr}
use Rattle.rows.specs.declared.refusal.Refusal.{Refusal}
use Rattle.rows.specs.declared.refusal.Refusal.TheVariants as refusals
use Rattle.machine_model.specs.MachineSpec.{MachineSpec}
use Rattle.machine_model.specs.declared.entry.Entry.{Entry}
use Rattle.raft_model.specs.Logs.{term_at}
use Rattle.raft_model.specs.Rafts.{Raft, RaftTurn, is_up, is_leader, silent, extended}
use Rattle.raft_model.specs.Steps.{Propose, unless, admission_refusal, step}
use Rattle.raft_model.specs.Worlds.{World, Event, Proposes, Run, start, more, happens, input_to, after_turn}
use Rattle.raft_model.specs.Chains.{At, Chain}
use Rattle.raft_model.proofs.Cases.{same_ok}
use Rattle.raft_core.specs.declared.ticket.ProposalStatus.{ProposalStatus}
use Rattle.raft_core.specs.declared.ticket.ProposalStatus.TheVariants.{Pending, Committed, Superseded, Compacted}
use Rattle.raft_core.specs.RaftView.{RaftView}
use Rattle.raft_core.specs.Steps.{RefinesRaft}
use Rattle.raft_core.specs.Tickets.{IsTicket, proposal_status_of}
use Rattle.raft_safety.specs.Claims.{EachRun}
use Rattle.raft_safety.specs.Tickets as tickets
use Rattle.raft_safety.specs.Tickets.{Stood, GoesOn, CommitIsFinal}
use Rattle.raft_safety.proofs.Places.{get_set-same, get-last, get-within, push_length}
use Rattle.raft_safety.proofs.Settling.{stood_later}
use Rattle.world.specs.declared.done.Done.{Done}
use Rattle.world.specs.declared.done.Done.TheVariants.{Taken, Crashed}
use Rattle.world.specs.WorldView.{WorldView, RunsTo}
use Rattle.world.specs.Steps.{EventHappened, WasDone, SameWorld}
use Rattle.world.specs.Claims.{OneListEver}
use Rattle.world.specs.Tickets.{running_status, proposal_status_in, TicketNow, StoodEver, CommittedEver}
use Rattle.world.proofs.Runs.{ends_alike, no_end, runs_are_one}
use Rattle.world.proofs.Same.{same_runs}
use Rattle.world.proofs.Zips.{zip_at, zip_none}

-- ---- what a standing says of its server

abbrev standing_by : Bool → Bool → Bool → Bool → Option ProposalStatus
standing_by up behind covered same = if up then Some (if behind then Pending else if covered then Compacted else if same then Committed else Superseded) else None

settled_by : (up behind covered same : Bool) → standing_by up behind covered same ≡ Some Committed → (behind ≡ false) × (covered ≡ false) × (same ≡ true)
settled_by false behind covered same h = absurd (cc)
settled_by true true covered same h = absurd (cc)
settled_by true false true same h = absurd (cc)
settled_by true false false true h = (refl, refl, refl)
settled_by true false false false h = absurd (cc)

lost_by : (up behind covered same : Bool) → standing_by up behind covered same ≡ Some Superseded → (behind ≡ false) × (covered ≡ false) × (same ≡ false)
lost_by false behind covered same h = absurd (cc)
lost_by true true covered same h = absurd (cc)
lost_by true false true same h = absurd (cc)
lost_by true false false true h = absurd (cc)
lost_by true false false false h = (refl, refl, refl)

covered_by : (up behind covered same : Bool) → standing_by up behind covered same ≡ Some Compacted → behind ≡ false
covered_by false behind covered same h = absurd (cc)
covered_by true true covered same h = absurd (cc)
covered_by true false covered same h = refl

-- a server has applied the entry at this index, and its term there is such
pub record Applies {C : Type 0} (s : Raft C) (index : ℕ) (IsSuch : ℕ → Type 0) : Type 0 where
  pub one : 1 ≤ index
  pub applied : index ≤ s.commit
  pub such : IsSuch (term_at s.log index)

module _ {C : Type 0} (s : Raft C) (index term : ℕ) where
  settled_applies : proposal_status_of s index term ≡ Some Committed → Applies s index (λ t. t ≡ term)
  settled_applies h =
      let q = settled_by (is_up s.mode) (nat_lt s.commit index) (nat_le index s.covered) (term_at s.log index == term) h in
      record { one = omega (arith, leb-false index s.covered q.1); applied = ltb-false s.commit index q.0; such = eqb-true (term_at s.log index) term q.2 }

  lost_applies : proposal_status_of s index term ≡ Some Superseded → Applies s index (λ t. t ≢ term)
  lost_applies h =
      let q = lost_by (is_up s.mode) (nat_lt s.commit index) (nat_le index s.covered) (term_at s.log index == term) h in
      record { one = omega (arith, leb-false index s.covered q.1); applied = ltb-false s.commit index q.0; such = eqb-false (term_at s.log index) term q.2 }

  covered_applies : 1 ≤ index → proposal_status_of s index term ≡ Some Compacted → Applies s index (λ t. Unit {0})
  covered_applies one h =
      let q = covered_by (is_up s.mode) (nat_lt s.commit index) (nat_le index s.covered) (term_at s.log index == term) h in
      record { one = one; applied = ltb-false s.commit index q; such = tt }

-- a server that is there, and applies
abbrev pub AppliesIn : {C : Type 0} → World C → ℕ → ℕ → (ℕ → Type 0) → Type 0
AppliesIn {C} w i index IsSuch = (s : Raft C) × (slice_get w.servers i ≡ Some s) × Applies s index IsSuch

module _ {C : Type 0} (index term : ℕ) where
  settled_running : (o : Option (Raft C)) → running_status index term o ≡ Some Committed → (s : Raft C) × (o ≡ Some s) × Applies s index (λ t. t ≡ term)
  settled_running None h = absurd (cc)
  settled_running (Some s) h = (s, refl, settled_applies s index term h)

  lost_running : (o : Option (Raft C)) → running_status index term o ≡ Some Superseded → (s : Raft C) × (o ≡ Some s) × Applies s index (λ t. t ≢ term)
  lost_running None h = absurd (cc)
  lost_running (Some s) h = (s, refl, lost_applies s index term h)

  covered_running : 1 ≤ index → (o : Option (Raft C)) → running_status index term o ≡ Some Compacted → (s : Raft C) × (o ≡ Some s) × Applies s index (λ t. Unit {0})
  covered_running one None h = absurd (cc)
  covered_running one (Some s) h = (s, refl, covered_applies s index term one h)

  pub settled_in : (w : World C) (i : ℕ) (r : Option ProposalStatus) → r ≡ proposal_status_in w i index term → r ≡ Some Committed → AppliesIn w i index (λ t. t ≡ term)
  settled_in w i r is h = settled_running (slice_get w.servers i) (sym is ∙ h)

  pub lost_in : (w : World C) (i : ℕ) (r : Option ProposalStatus) → r ≡ proposal_status_in w i index term → r ≡ Some Superseded → AppliesIn w i index (λ t. t ≢ term)
  lost_in w i r is h = lost_running (slice_get w.servers i) (sym is ∙ h)

  pub covered_in : 1 ≤ index → (w : World C) (i : ℕ) (r : Option ProposalStatus) → r ≡ proposal_status_in w i index term → r ≡ Some Compacted → AppliesIn w i index (λ t. Unit {0})
  covered_in one w i r is h = covered_running one (slice_get w.servers i) (sym is ∙ h)

-- ---- and of its runs

module _ {S C : Type 0} (m : MachineSpec S C) where
  module _ (seen : WorldView S C) (i index term : ℕ) (past : List (World C)) (w : World C) (runs : RunsTo m seen past w) where
    pub no_standing : slice_get seen.servers i ≡ None → None ≡ proposal_status_in w i index term
    no_standing gone = let st = runs.refines in let none : slice_get w.servers i ≡ None = zip_none (RefinesRaft m) seen.servers w.servers i st.servers gone in rw none refl

    pub standing_is : (h : RaftView S C) (r : Option ProposalStatus) → slice_get seen.servers i ≡ Some h → ((s : Raft C) → RefinesRaft m h s → r ≡ proposal_status_of s index term) → r ≡ proposal_status_in w i index term
    standing_is h r here says =
        let st = runs.refines in
        let s = zip_at (RefinesRaft m) seen.servers w.servers i h st.servers here in
        says s.0 s.2 ∙ ap (running_status index term) (sym s.1)

  -- what a server has applied is settled
  pub settled_ever : (seen : WorldView S C) → OneListEver m seen → EachRun m (λ n events past w. (list : List (Entry C)) → Chain past w list → CommitIsFinal past w list) →
      (i index : ℕ) (IsSuch : ℕ → Type 0) → ((past : List (World C)) (w : World C) → RunsTo m seen past w → AppliesIn w i index IsSuch) → CommittedEver m seen index IsSuch
  settled_ever seen l settles i index IsSuch known =
      let runs = l.runs in
      let s = known l.past l.world l.runs in
      let at : At l.past l.world (length l.past) i s.0 = record { world = l.world; world_is = get-last l.past l.world; here = s.1 } in
      let k = s.2 in
      let q = settles (length seen.servers) seen.trace l.past l.world runs.run l.list (l.ever l.past l.world l.runs) (length l.past) i index s.0 at k.one k.applied in
      record {
        past = l.past;
        world = l.world;
        runs = l.runs;
        list = l.list;
        long = l.long;
        ever = l.ever;
        entry = q.entry;
        of = subst IsSuch (sym q.of) k.such;
        settled = λ past w r.
            let same = runs_are_one m seen l.past past l.world w l.runs r in
            subst (λ x. tickets.Committed past x l.list index q.entry) same.1 (subst (λ x. tickets.Committed x l.world l.list index q.entry) same.0 q.settled);
      }

  -- ---- a proposal

  turn_is : (up leads : Bool) (a : Option Refusal) (known : Option ℕ) (turn t : RaftTurn C) →
      (if up then (if leads then unless a turn else Err (refusals.NotLeader known)) else Err refusals.Down) ≡ Ok t → turn ≡ t
  turn_is false leads a known turn t h = absurd (cc)
  turn_is true false a known turn t h = absurd (cc)
  turn_is true true None known turn t h = same_ok turn t h
  turn_is true true (Some r) known turn t h = absurd (cc)

  module _ (i : ℕ) (command : C) where
    -- the server that took it is longer by the command
    turned : (prev w : World C) (s : Raft C) → slice_get prev.servers i ≡ Some s → (r : Result (RaftTurn C) Refusal) → step m (length prev.servers) i s (Propose command) ≡ r → after_turn m prev i r ≡ Ok w →
        slice_get w.servers i ≡ Some (extended s command)
    turned prev w s here (Err cause) is h = absurd (cc)
    turned prev w s here (Ok t) is h =
        let turn = turn_is (is_up s.mode) (is_leader s.mode) (admission_refusal m s command) s.known (silent (extended s command)) t is in
        let next = same_ok _ _ h in
        ap (λ (x : World C). slice_get x.servers i) (sym next)
        ∙ (get_set-same prev.servers i t.server (get-within prev.servers i s here) ∙ ap (λ (x : RaftTurn C). Some x.server) (sym turn))

    taken_by : (prev w : World C) (o : Option (Raft C)) → slice_get prev.servers i ≡ o → input_to m prev i (Propose command) o ≡ Ok w → (s : Raft C) × (slice_get w.servers i ≡ Some (extended s command))
    taken_by prev w None here h = absurd (cc)
    taken_by prev w (Some s) here h = (s, turned prev w s here (step m (length prev.servers) i s (Propose command)) refl h)

    -- the last event of a run
    last_step : (n : ℕ) (all : List (Event C)) (past : List (World C)) (w : World C) → Run m n all past w → (events : List (Event C)) (e : Event C) → all ≡ events ++ e ∷ [] → (prev : World C) × (happens m prev e ≡ Ok w)
    last_step n all past w start events e ends = absurd (no_end events e (sym ends))
    last_step n all past w (more {events = es} {w = prev} f next run is so) events e ends =
        let a = ends_alike es events f e ends in
        (prev, subst (λ (x : Event C). happens m prev x ≡ Ok next) a.1 so)

    -- there is a server that took it
    pub taken_there : (old new : WorldView S C) → EventHappened m old (Proposes i command) new → OneListEver m new → slice_get new.servers i ≡ None → ⊥
    taken_there old new happened l gone =
        let runs = l.runs in
        let st = runs.refines in
        let p = last_step (length new.servers) new.trace l.past l.world runs.run old.trace (Proposes i command) happened.trace in
        let q = taken_by p.0 l.world (slice_get p.0.servers i) refl p.1 in
        let none : slice_get l.world.servers i ≡ None = zip_none (RefinesRaft m) new.servers l.world.servers i st.servers gone in
        let both = sym q.1 ∙ none in cc

    module _ (old new : WorldView S C) (happened : EventHappened m old (Proposes i command) new) (view : RaftView S C) (here : slice_get new.servers i ≡ Some view) (index term : ℕ)
        (last : (s : Raft C) → RefinesRaft m view s → index ≡ length s.log) (own : (s : Raft C) → RefinesRaft m view s → term ≡ s.term) where
      ticket_in : (past : List (World C)) (w : World C) → RunsTo m new past w → (s : Raft C) × (slice_get w.servers i ≡ Some s) × IsTicket s command index term
      ticket_in past w runs =
          let st = runs.refines in
          let t = zip_at (RefinesRaft m) new.servers w.servers i view st.servers here in
          let p = last_step (length new.servers) new.trace past w runs.run old.trace (Proposes i command) happened.trace in
          let q = taken_by p.0 w (slice_get p.0.servers i) refl p.1 in
          let is : t.0 ≡ extended q.0 command = same_Some t.0 (extended q.0 command) (sym t.1 ∙ q.1) in
          let term_is : term ≡ q.0.term = own t.0 t.2 ∙ ap (λ (x : Raft C). x.term) is in
          let size : index ≡ suc (length q.0.log) = last t.0 t.2 ∙ (ap (λ (x : Raft C). length x.log) is ∙ push_length q.0.log _) in (
            t.0,
            t.1,
            record {
              before = q.0.log;
              log = ap (λ (x : Raft C). x.log) is ∙ ap (λ (k : ℕ). let e : Entry C = record { term = k; command = command } in q.0.log ++ e ∷ []) (sym term_is);
              place = size;
              own = own t.0 t.2;
            },
          )

      pub ticket_now : OneListEver m new → TicketNow m new i command index term
      ticket_now l = record { past = l.past; world = l.world; runs = l.runs; ever = ticket_in }

      stood_in : (past : List (World C)) (w : World C) → RunsTo m new past w → Stood past w index term command
      stood_in past w runs =
          let t = ticket_in past w runs in
          let k = t.2 in
          let place : index - 1 ≡ length k.before = omega (arith, k.place) in
          record {
            moment = length past;
            who = i;
            server = t.0;
            at = record { world = w; world_is = get-last past w; here = t.1 };
            one = omega (arith, k.place);
            there = ap (slice_get t.0.log) place ∙ (ap (λ (log : List (Entry C)). slice_get log (length k.before)) k.log ∙ get-last k.before _);
          }

      pub stood_now : OneListEver m new → StoodEver m new index term command
      stood_now l = record { past = l.past; world = l.world; runs = l.runs; ever = stood_in }

  -- ---- what stood stood

  went_on : (old new : WorldView S C) (e : Event C) → EventHappened m old e new → (index term : ℕ) (command : C) → StoodEver m old index term command → StoodEver m new index term command
  went_on old new e happened index term command s =
      let next = happened.runs s.past s.world s.runs in
      let on : GoesOn s.past s.world (s.past ++ s.world ∷ []) next.0 = record { rest = next.0 ∷ []; worlds = append_assoc s.past (s.world ∷ []) (next.0 ∷ []) } in
      let still = stood_later s.past s.world (s.past ++ s.world ∷ []) next.0 index term command on (s.ever s.past s.world s.runs) in
      record {
        past = s.past ++ s.world ∷ [];
        world = next.0;
        runs = next.2;
        ever = λ past w r.
            let same = runs_are_one m new (s.past ++ s.world ∷ []) past next.0 w next.2 r in
            subst (λ x. Stood past x index term command) same.1 (subst (λ x. Stood x next.0 index term command) same.0 still);
      }

  stayed : (old new : WorldView S C) → SameWorld old new → (index term : ℕ) (command : C) → StoodEver m old index term command → StoodEver m new index term command
  stayed old new same index term command s =
      let runs = same_runs m old new same s.past s.world s.runs in
      record {
        past = s.past;
        world = s.world;
        runs = runs;
        ever = λ past w r.
            let one = runs_are_one m new s.past past s.world w runs r in
            subst (λ x. Stood past x index term command) one.1 (subst (λ x. Stood x s.world index term command) one.0 (s.ever s.past s.world s.runs));
      }

  pub stood_after : (old new : WorldView S C) (e : Event C) (r : Result Done Refusal) → IfOk r (λ done. WasDone m old e done new) → OnErr r (SameWorld old new) →
      (index term : ℕ) (command : C) → StoodEver m old index term command → StoodEver m new index term command
  stood_after old new e (Ok Taken) ok err index term command s = went_on old new e ok index term command s
  stood_after old new e (Ok Crashed) (inl crashed) err index term command s = went_on old new _ crashed.happened index term command s
  stood_after old new e (Ok Crashed) (inr down) err index term command s = subst (λ (x : WorldView S C). StoodEver m x index term command) (sym down.same) s
  stood_after old new e (Err cause) ok err index term command s = stayed old new err index term command s
