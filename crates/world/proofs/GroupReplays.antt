-- What becomes of a list of events that is handed in.
use Rattle.std.proofs.Common.{◌≡◌, ◌≢◌, ℕ, ◌⊎◌, inl, inr, Some, Result, Ok, Err, IfOk, IfErr, OnErr, List, [], ◌∷◌, ◌++◌, length, length-append, append-nil, refl, sym, ap, ◌∙◌, subst, slice_get, arith}
use Rattle.std.proofs.lemmas.List.{map-append, append_assoc}
use Rattle.rows.specs.declared.node.NodeSpec.{NodeSpec}
use Rattle.rows.specs.declared.refusal.Refusal.{Refusal}
use Rattle.rows.specs.declared.refusal.Refusal.TheVariants as refusals
use Rattle.raft_model.specs.Worlds.{Outcome, Kept, LeftOut}
use Rattle.raft_model.specs.Worlds.{Crashed as OutcomeCrashed}
use Rattle.raft_safety.proofs.Places.{get-more, get-last}
use Rattle.raft_safety.proofs.Chains.{greatest_one}
use Rattle.group_model.specs.Worlds.{World, Event, IsEvent, IsLeftOut, first, happens, raft_of, crash_of, Trace, nothing, kept, crashed, left_out}
use Rattle.group_safety.specs.Claims.{logs}
use Rattle.group_safety.specs.Limits.{NodesFit, LimitedRun, LimitsAreKept, start, more}
use Rattle.server.specs.declared.server.Outbox.{Outbox}
use Rattle.world.specs.declared.done.Done.{Done}
use Rattle.world.specs.declared.done.Done.TheVariants.{Taken, Crashed}
use Rattle.group_inputs.specs.declared.event.Event.{Event as GroupEvent}
use Rattle.world.specs.Steps.{EachBecame, WasOutOfMemory}
use Rattle.group_inputs.specs.Events.{group_event, group_events}
use Rattle.world.specs.GroupWork.{work_of, works}
use Rattle.world.specs.GroupView.{GroupView, GroupRunsTo, nodes_of, renumbered}
use Rattle.world.specs.GroupSteps.{OutOfMemoryMayEndAt, WasOutOfMemoryAllowed, GroupOutOfMemoryCrash, GroupMayBecome, GroupEventHappened, IsGroupDone, GroupStaysDown, SameView, RefusesGroupEvent, IsNewGroup, GroupPlayed, GroupReplays}
use Rattle.world.proofs.Outcomes.{place_after, place_more, became_more, became_map}
use Rattle.world.proofs.Runs.{ends_alike, no_end}
use Rattle.world.proofs.GroupBegins.{new_group_runs}
use Rattle.world.proofs.GroupServers.{same_group_count, same_group_nodes, same_group_runs}
use Rattle.world.proofs.GroupRuns.{last_event, group_runs_are_one}

pub group_event_more : (before after : List GroupEvent) (e : GroupEvent) → after ≡ before ++ e ∷ [] → group_events after ≡ group_events before ++ group_event e ∷ []
group_event_more before after e is = ap group_events is ∙ map-append group_event before (e ∷ [])

-- ---- what workers get

works_more : (past : List World) (events : List Event) (w : World) (e : Event) → length past ≡ length events → works (past ++ w ∷ []) (events ++ e ∷ []) ≡ works past events ++ work_of w e
works_more [] [] w e same = append-nil (work_of w e)
works_more [] (f ∷ fs) w e same = absurd (omega arith)
works_more (x ∷ xs) [] w e same = absurd (omega arith)
works_more (x ∷ xs) (f ∷ fs) w e same = ap (λ l. work_of x f ++ l) (works_more xs fs w e (omega arith)) ∙ sym (append_assoc (work_of x f) (works xs fs) (work_of w e))

-- a run has as many worlds before the last one as events
pub run_length : (n : ℕ) (nodes : List NodeSpec) (events : List Event) (past : List World) (w : World) → LimitedRun n nodes events past w → length past ≡ length events
run_length n nodes events past w start = refl
run_length n nodes events past w (more {events = es} {past = before} {w = last} e next run fits so) =
    omega (arith, run_length n nodes es before last run, length-append before (last ∷ []), length-append es (e ∷ []))

-- ---- what became of each event

-- the next event is due at the last moment
place_is : (n : ℕ) (nodes : List NodeSpec) (events trace : List Event) (outcomes : List Outcome) (past : List World) (w : World) → Trace n nodes events outcomes trace past w → place_after 0 outcomes ≡ length past
place_is n nodes events trace outcomes past w nothing = refl
place_is n nodes events trace outcomes past w (kept {events = es} {trace = ts} {outcomes = os} {past = before} {w = last} e next t is so) =
    omega (arith, place_more 0 os Kept, place_is n nodes es ts os before last t, length-append before (last ∷ []))
place_is n nodes events trace outcomes past w (crashed {events = es} {trace = ts} {outcomes = os} {past = before} {w = last} e c next t is so) =
    omega (arith, place_more 0 os OutcomeCrashed, place_is n nodes es ts os before last t, length-append before (last ∷ []))
place_is n nodes events trace outcomes past w (left_out {events = es} {trace = ts} {outcomes = os} {past = before} {w = last} e r t left) =
    place_more 0 os (LeftOut r) ∙ place_is n nodes es ts os before last t

abbrev wants_on : (past : List World) (w next : World) (place : ℕ) (e : Event) → WasOutOfMemoryAllowed past w place e → WasOutOfMemoryAllowed (past ++ w ∷ []) next place e
wants_on past w next place e x = record { before = x.before; before_is = get-more (past ++ w ∷ []) (next ∷ []) place x.before x.before_is; lacking = x.lacking }

stands_on : (trace : List Event) (past : List World) (w next : World) (c : Event) (place : ℕ) (e : Event) (o : Outcome) → GroupMayBecome trace past w place e o → GroupMayBecome (trace ++ c ∷ []) (past ++ w ∷ []) next place e o
stands_on trace past w next c place e Kept s = tt
stands_on trace past w next c place e (LeftOut r) s = λ is. wants_on past w next place e (s is)
stands_on trace past w next c place e OutcomeCrashed s = record {
  due = wants_on past w next place e s.due;
  crash = s.crash;
  crash_is = get-more trace (c ∷ []) place s.crash s.crash_is;
  of = s.of;
}

became_on : (trace : List Event) (past : List World) (w next : World) (c : Event) (handed : List Event) (outcomes : List Outcome) → EachBecame (GroupMayBecome trace past w) 0 handed outcomes →
    EachBecame (GroupMayBecome (trace ++ c ∷ []) (past ++ w ∷ []) next) 0 handed outcomes
became_on trace past w next c handed outcomes all =
    became_map (GroupMayBecome trace past w) (GroupMayBecome (trace ++ c ∷ []) (past ++ w ∷ []) next) (λ place e o became. stands_on trace past w next c place e o became) 0 handed outcomes all

abbrev wants_now : (past : List World) (w : World) (place : ℕ) (e : Event) → place ≡ length past → OutOfMemoryMayEndAt w e → WasOutOfMemoryAllowed past w place e
wants_now past w place e due lacking = record { before = w; before_is = subst (λ k. slice_get (past ++ w ∷ []) k ≡ Some w) (sym due) (get-last past w); lacking = lacking }

starved_now : (trace : List Event) (past : List World) (w next : World) (place : ℕ) (e crash : Event) → place ≡ length past → length past ≡ length trace → crash_of w e ≡ Some crash → OutOfMemoryMayEndAt w e → GroupOutOfMemoryCrash (trace ++ crash ∷ []) (past ++ w ∷ []) next place e
starved_now trace past w next place e crash due same is lacking = record {
  due = wants_on past w next place e (wants_now past w place e due lacking);
  crash = crash;
  crash_is = subst (λ k. slice_get (trace ++ crash ∷ []) k ≡ Some crash) (sym (due ∙ same)) (get-last trace crash);
  of = is;
}

-- ---- one event after the other

module _ (n : ℕ) (nodes : List NodeSpec) where
  pub group_play_begins : (view : GroupView) → IsNewGroup n nodes view → GroupPlayed n nodes [] view
  group_play_begins view begun = record {
    count = begun.count;
    nodes_are = begun.nodes_are;
    outcomes = [];
    past = [];
    world = first n (renumbered 1 nodes);
    trace = subst (λ es. Trace n (renumbered 1 nodes) [] [] es [] (first n (renumbered 1 nodes))) (sym begun.trace) nothing;
    runs = subst (λ ns. GroupRunsTo view [] (first n ns)) begun.nodes_are (new_group_runs n nodes view begun);
    became = tt;
    work = begun.work;
  }

  -- an event that left the same group
  passed_over : (handed : List Event) (old new : GroupView) (e : Event) (r : Refusal) (p : GroupPlayed n nodes handed old) → IsLeftOut p.world e r → r ≢ refusals.NoMemory → SameView old new → GroupPlayed n nodes (handed ++ e ∷ []) new
  passed_over handed old new e r p left other same = record {
    count = same_group_count old new same ∙ p.count;
    nodes_are = same_group_nodes old new same ∙ p.nodes_are;
    outcomes = p.outcomes ++ LeftOut r ∷ [];
    past = p.past;
    world = p.world;
    trace = subst (λ es. Trace n (renumbered 1 nodes) (handed ++ e ∷ []) (p.outcomes ++ LeftOut r ∷ []) es p.past p.world) (sym same.trace) (left_out e r p.trace left);
    runs = same_group_runs old new same p.past p.world p.runs;
    became = subst (λ ts. EachBecame (GroupMayBecome ts p.past p.world) 0 (handed ++ e ∷ []) (p.outcomes ++ LeftOut r ∷ [])) (sym same.trace) (became_more (GroupMayBecome old.trace p.past p.world) 0 handed p.outcomes e (LeftOut r) p.became (λ is. absurd (other is)));
    work = ap (λ (o : Outbox). o.work) same.outbox ∙ (p.work ∙ ap (works p.past) (sym same.trace));
  }

  -- a restart for which there was no memory
  stayed_down : (handed : List Event) (old new : GroupView) (e : Event) (p : GroupPlayed n nodes handed old) → GroupStaysDown old e new → GroupPlayed n nodes (handed ++ e ∷ []) new
  stayed_down handed old new e p s =
      let runs = p.runs in
      subst (GroupPlayed n nodes (handed ++ e ∷ [])) (sym s.same) (record {
        count = p.count;
        nodes_are = p.nodes_are;
        outcomes = p.outcomes ++ LeftOut refusals.NoMemory ∷ [];
        past = p.past;
        world = p.world;
        trace = left_out e refusals.NoMemory p.trace (inr (s.restart, s.could p.world runs.refines, refl));
        runs = p.runs;
        became = became_more (GroupMayBecome old.trace p.past p.world) 0 handed p.outcomes e (LeftOut refusals.NoMemory) p.became
            (λ is. wants_now p.past p.world (place_after 0 p.outcomes) e (place_is n (renumbered 1 nodes) handed old.trace p.outcomes p.past p.world p.trace) (s.lacking p.world runs.refines));
        work = p.work;
      })

  -- what workers got by an event that happened is put behind what they got before
  worked : (handed : List Event) (old new : GroupView) (e : Event) (p : GroupPlayed n nodes handed old) → GroupEventHappened old e new → new.outbox.work ≡ works (p.past ++ p.world ∷ []) new.trace
  worked handed old new e p h =
      let runs = p.runs in
      h.work p.world runs.refines
      ∙ (ap (λ l. l ++ work_of p.world e) p.work
      ∙ (sym (works_more p.past old.trace p.world e (run_length (length old.servers) (nodes_of old) old.trace p.past p.world runs.run)) ∙ ap (works (p.past ++ p.world ∷ [])) (sym h.trace)))

  -- an event that happened is one of the definitions
  module _ (limits : LimitsAreKept) (fit : NodesFit (renumbered 1 nodes)) where
    was_event : (old new : GroupView) (e : Event) (past : List World) (w next : World) → nodes_of new ≡ renumbered 1 nodes → new.trace ≡ old.trace ++ e ∷ [] → GroupRunsTo new (past ++ w ∷ []) next → IsEvent w e
    was_event old new e past w next are is r =
        last_event (length new.servers) (nodes_of new) new.trace (past ++ w ∷ []) next (limits (length new.servers) (nodes_of new) new.trace (past ++ w ∷ []) next (subst NodesFit (sym are) fit) r.run) old.trace e past w is refl

    pub group_play_next : (handed : List Event) (old new : GroupView) (e : Event) (result : Result Done Refusal) → GroupPlayed n nodes handed old →
        IfOk result (λ done. IsGroupDone old e done new) → OnErr result (SameView old new) → IfErr result (λ refusal. refusal ≢ refusals.NoMemory → RefusesGroupEvent old e refusal) → result ≢ Err refusals.NoMemory →
        GroupPlayed n nodes (handed ++ e ∷ []) new
    group_play_next handed old new e (Ok Taken) p went err cause memory =
        let q = went.runs p.past p.world p.runs in
        let are = went.nodes ∙ p.nodes_are in
        record {
          count = went.size ∙ p.count;
          nodes_are = are;
          outcomes = p.outcomes ++ Kept ∷ [];
          past = p.past ++ p.world ∷ [];
          world = q.0;
          trace = subst (λ es. Trace n (renumbered 1 nodes) (handed ++ e ∷ []) (p.outcomes ++ Kept ∷ []) es (p.past ++ p.world ∷ []) q.0) (sym went.trace)
              (kept e q.0 p.trace (was_event old new e p.past p.world q.0 are went.trace q.2) q.1);
          runs = q.2;
          became = subst (λ ts. EachBecame (GroupMayBecome ts (p.past ++ p.world ∷ []) q.0) 0 (handed ++ e ∷ []) (p.outcomes ++ Kept ∷ [])) (sym went.trace)
              (became_more (GroupMayBecome (old.trace ++ e ∷ []) (p.past ++ p.world ∷ []) q.0) 0 handed p.outcomes e Kept (became_on old.trace p.past p.world q.0 e handed p.outcomes p.became) tt);
          work = worked handed old new e p went;
        }
    group_play_next handed old new e (Ok Crashed) p went err cause memory = elim went [
      | inl f ↦
          let happened = f.happened in
          let q = happened.runs p.past p.world p.runs in
          let runs = p.runs in
          record {
            count = happened.size ∙ p.count;
            nodes_are = happened.nodes ∙ p.nodes_are;
            outcomes = p.outcomes ++ OutcomeCrashed ∷ [];
            past = p.past ++ p.world ∷ [];
            world = q.0;
            trace = subst (λ es. Trace n (renumbered 1 nodes) (handed ++ e ∷ []) (p.outcomes ++ OutcomeCrashed ∷ []) es (p.past ++ p.world ∷ []) q.0) (sym happened.trace)
                (crashed e f.crash q.0 p.trace (f.actor p.world runs.refines) q.1);
            runs = q.2;
            became = subst (λ ts. EachBecame (GroupMayBecome ts (p.past ++ p.world ∷ []) q.0) 0 (handed ++ e ∷ []) (p.outcomes ++ OutcomeCrashed ∷ [])) (sym happened.trace)
                (became_more (GroupMayBecome (old.trace ++ f.crash ∷ []) (p.past ++ p.world ∷ []) q.0) 0 handed p.outcomes e OutcomeCrashed (became_on old.trace p.past p.world q.0 f.crash handed p.outcomes p.became)
                (starved_now old.trace p.past p.world q.0 (place_after 0 p.outcomes) e f.crash (place_is n (renumbered 1 nodes) handed old.trace p.outcomes p.past p.world p.trace) (run_length (length old.servers) (nodes_of old) old.trace p.past p.world runs.run) (f.actor p.world runs.refines) (f.lacking p.world runs.refines)));
            work = worked handed old new f.crash p happened;
          }
      | inr s ↦ stayed_down handed old new e p s
    ]
    group_play_next handed old new e (Err refusal) p went err cause memory =
        let other : refusal ≢ refusals.NoMemory = λ r. memory (ap (λ x. Err x) r) in
        passed_over handed old new e refusal p (inl (cause other p.past p.world p.runs)) other err

-- ---- a run comes again from its events, unless memory is wanting

module _ (n : ℕ) (nodes : List NodeSpec) where
  -- an event for which memory was wanting
  record Lack (outcomes : List Outcome) : Type 0 where
    place : ℕ
    outcome : Outcome
    at : slice_get outcomes place ≡ Some outcome
    lacked : WasOutOfMemory outcome

  lack_on : (outcomes : List Outcome) (o : Outcome) → Lack outcomes → Lack (outcomes ++ o ∷ [])
  lack_on outcomes o l = record { place = l.place; outcome = l.outcome; at = get-more outcomes (o ∷ []) l.place l.outcome l.at; lacked = l.lacked }

  lack_now : (outcomes : List Outcome) (o : Outcome) → WasOutOfMemory o → Lack (outcomes ++ o ∷ [])
  lack_now outcomes o l = record { place = length outcomes; outcome = o; at = get-last outcomes o; lacked = l }

  -- each event was kept, on the way of the run
  record Same (events trace : List Event) (past past2 : List World) (w w2 : World) : Type 0 where
    trace_is : trace ≡ events
    past_is : past ≡ past2
    world_is : w ≡ w2

  again : (events handed trace : List Event) (outcomes : List Outcome) (past past2 : List World) (w w2 : World) → events ≡ handed → Trace n nodes events outcomes trace past w →
      LimitedRun n nodes handed past2 w2 → Same events trace past past2 w w2 ⊎ Lack outcomes
  again events handed trace outcomes past past2 w w2 same nothing start = inl (record { trace_is = refl; past_is = refl; world_is = refl })
  again events handed trace outcomes past past2 w w2 same nothing (more {events = fs} f next2 run2 fits2 so2) = absurd (no_end fs f (sym same))
  again events handed trace outcomes past past2 w w2 same (kept {events = es} e next t is so) start = absurd (no_end es e same)
  again events handed trace outcomes past past2 w w2 same (crashed {events = es} e c next t actor so) start = absurd (no_end es e same)
  again events handed trace outcomes past past2 w w2 same (left_out {events = es} e r t left) start = absurd (no_end es e same)
  again events handed trace outcomes past past2 w w2 same (crashed {outcomes = os} e c next t actor so) (more f next2 run2 fits2 so2) = inr (lack_now os OutcomeCrashed tt)
  again events handed trace outcomes past past2 w w2 same (kept {events = es} {trace = ts} {outcomes = os} {past = before} {w = last} e next t is so) (more {events = fs} {past = before2} {w = last2} f next2 run fits2 so2) =
      let s = ends_alike es fs e f same in
      elim (again es fs ts os before before2 last last2 s.0 t run) [
        | inl q ↦
            let x : e ≡ f = s.1 in
            let y : last ≡ last2 = q.world_is in
            let z : Ok next ≡ Ok next2 = sym so ∙ (ap (λ v. happens v e) y ∙ (ap (λ v. happens last2 v) x ∙ so2)) in
            inl (record { trace_is = ap (λ l. l ++ e ∷ []) q.trace_is; past_is = ap (λ l. l ++ last ∷ []) q.past_is ∙ ap (λ v. before2 ++ v ∷ []) y; world_is = cc })
        | inr l ↦ inr (lack_on os Kept l)
      ]
  again events handed trace outcomes past past2 w w2 same (left_out {events = es} {trace = ts} {outcomes = os} {past = before} {w = last} e r t left) (more {events = fs} {past = before2} {w = last2} f next2 run fits2 so2) =
      let s = ends_alike es fs e f same in
      elim (again es fs ts os before before2 last last2 s.0 t run) [
        | inl q ↦
            let x : e ≡ f = s.1 in
            let y : last ≡ last2 = q.world_is in
            elim left [
              | inl refused ↦ absurd (let z : Err r ≡ Ok next2 = sym refused ∙ (ap (λ v. happens v e) y ∙ (ap (λ v. happens last2 v) x ∙ so2)) in cc)
              | inr lack ↦ inr (lack_now os (LeftOut r) lack.2)
            ]
        | inr l ↦ inr (lack_on os (LeftOut r) l)
      ]

module _ (n : ℕ) (nodes : List NodeSpec) where
  pub group_replays : (handed : List Event) (view : GroupView) → GroupPlayed n nodes handed view → GroupReplays n nodes handed view
  group_replays handed view p old reached count are is =
      let runs = reached.runs in
      let ns = renumbered 1 nodes in
      let run : LimitedRun n ns handed reached.past reached.world =
      subst (λ es. LimitedRun n ns es reached.past reached.world) is (subst (λ v. LimitedRun n v old.trace reached.past reached.world) are (subst (λ k. LimitedRun k (nodes_of old) old.trace reached.past reached.world) count runs.run)) in
      elim (again n ns handed handed view.trace p.outcomes p.past reached.past p.world reached.world refl p.trace run) [
        | inl q ↦
            let new : GroupRunsTo view reached.past reached.world = subst (λ x. GroupRunsTo view reached.past x) q.world_is (subst (λ x. GroupRunsTo view x p.world) q.past_is p.runs) in
            inl (record {
              trace = q.trace_is ∙ sym is;
              chain = greatest_one (logs reached.past) (raft_of reached.world) view.chain old.chain new.chain runs.chain;
              runs = λ past w r. let same = group_runs_are_one old reached.past past reached.world w runs r in
                  subst (λ x. GroupRunsTo view past x) same.1 (subst (λ x. GroupRunsTo view x reached.world) same.0 new);
            })
        | inr l ↦ inr (record { played = p; place = l.place; outcome = l.outcome; at = l.at; lacked = l.lacked })
      ]
