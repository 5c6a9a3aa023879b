-- Runs of a group, and what holds of them.
use Rattle.std.proofs.Common.{◌≡◌, ℕ, Ok, List, [], ◌∷◌, ◌++◌, length, refl, sym, ap, ◌∙◌, subst}
use Rattle.rows.specs.declared.node.NodeSpec.{NodeSpec}
use Rattle.raft_safety.proofs.Chains.{greatest_one}
use Rattle.group_model.specs.Worlds as model
use Rattle.group_model.specs.Worlds.{World, Event, Run, IsEvent, happens, raft_of}
use Rattle.group_safety.specs.Claims.{OneList, OneExists, AsLongAsCommitted, OfTheList, SafeStates, PlansAreBacked, StartsArePlaced, logs}
use Rattle.group_safety.specs.Limits.{LimitedRun, LimitsAreKept, start, more}
use Rattle.world.specs.GroupView.{GroupView, GroupRunsTo, GroupInvariant, nodes_of}
use Rattle.world.specs.GroupClaims.{OneGroupList, SafeGroupStates, BackedPlans, PlacedStarts, GroupHeadline}
use Rattle.world.proofs.Runs.{ends_alike, no_end}

-- ---- a list of events has one run

module _ (n : ℕ) (nodes : List NodeSpec) where
  pub group_run_is_one : (events again : List Event) (past past2 : List World) (w w2 : World) → events ≡ again → LimitedRun n nodes events past w → LimitedRun n nodes again past2 w2 → (past ≡ past2) × (w ≡ w2)
  group_run_is_one events again past past2 w w2 same start start = (refl, refl)
  group_run_is_one events again past past2 w w2 same start (more {events = fs} f next2 run2 fits2 so2) = absurd (no_end fs f (sym same))
  group_run_is_one events again past past2 w w2 same (more {events = es} e next run fits so) start = absurd (no_end es e same)
  group_run_is_one events again past past2 w w2 same (more {events = es} {past = before} {w = last} e next run fits so) (more {events = fs} {past = before2} {w = last2} f next2 run2 fits2 so2) =
      let s = ends_alike es fs e f same in
      let q = group_run_is_one es fs before before2 last last2 s.0 run run2 in
      let x : e ≡ f = s.1 in
      let y : last ≡ last2 = q.1 in
      let z : Ok next ≡ Ok next2 = sym so ∙ (ap (λ v. happens v e) y ∙ (ap (λ v. happens last2 v) x ∙ so2)) in
      let k : next ≡ next2 = cc in
      (ap (λ l. l ++ last ∷ []) q.0 ∙ ap (λ v. before2 ++ v ∷ []) y, k)

  -- the last event of a run is one
  pub last_event : (all : List Event) (worlds : List World) (next : World) → Run n nodes all worlds next → (events : List Event) (e : Event) (past : List World) (w : World) →
      all ≡ events ++ e ∷ [] → worlds ≡ past ++ w ∷ [] → IsEvent w e
  last_event all worlds next model.start events e past w ends stands = absurd (no_end events e (sym ends))
  last_event all worlds next (model.more {events = es} {past = before} {w = last} f after run is so) events e past w ends stands =
      let a = ends_alike es events f e ends in
      let b = ends_alike before past last w stands in
      subst (λ (v : World). IsEvent v e) b.1 (subst (λ (x : Event). IsEvent last x) a.1 is)

-- so all runs of a value are one
pub group_runs_are_one : (view : GroupView) (past past2 : List World) (w w2 : World) → GroupRunsTo view past w → GroupRunsTo view past2 w2 → (past ≡ past2) × (w ≡ w2)
group_runs_are_one view past past2 w w2 one other = group_run_is_one (length view.servers) (nodes_of view) view.trace view.trace past past2 w w2 refl one.run other.run

-- ---- what holds of every group that was reached

module _ (view : GroupView) (r : GroupInvariant view) (limits : LimitsAreKept) where
  -- its runs are runs of the definitions
  group_run : (past : List World) (w : World) → GroupRunsTo view past w → Run (length view.servers) (nodes_of view) view.trace past w
  group_run past w q = limits (length view.servers) (nodes_of view) view.trace past w r.nodes q.run

  pub one_group_list : OneExists → AsLongAsCommitted → OneGroupList view
  one_group_list exists long =
      let runs = r.runs in
      let l = exists (length view.servers) (nodes_of view) view.trace r.past r.world (group_run r.past r.world runs) in
      record {
        past = r.past;
        world = r.world;
        runs = runs;
        list = l.0;
        long = greatest_one (logs r.past) (raft_of r.world) (length l.0) view.chain (long r.past r.world l.0 l.1) runs.chain;
        ever = λ past w q.
            let same = group_runs_are_one view r.past past r.world w runs q in
            subst (λ x. OneList past x l.0) same.1 (subst (λ x. OneList x r.world l.0) same.0 l.1);
      }

  pub safe_group_states : OfTheList (λ events past w list. SafeStates list) → SafeGroupStates view
  safe_group_states safe = record {
    past = r.past;
    world = r.world;
    runs = r.runs;
    ever = λ past w q list one. safe (length view.servers) (nodes_of view) view.trace past w (group_run past w q) list one;
  }

  pub backed_group_plans : OfTheList PlansAreBacked → BackedPlans view
  backed_group_plans backed = record {
    past = r.past;
    world = r.world;
    runs = r.runs;
    ever = λ past w q list one. backed (length view.servers) (nodes_of view) view.trace past w (group_run past w q) list one;
  }

  pub placed_group_starts : OfTheList (λ events past w list. StartsArePlaced past w list) → PlacedStarts view
  placed_group_starts placed = record {
    past = r.past;
    world = r.world;
    runs = r.runs;
    ever = λ past w q list one. placed (length view.servers) (nodes_of view) view.trace past w (group_run past w q) list one;
  }

  pub group_headline : OneExists → AsLongAsCommitted → OfTheList (λ events past w list. SafeStates list) → OfTheList PlansAreBacked → OfTheList (λ events past w list. StartsArePlaced past w list) → GroupHeadline view
  group_headline exists long safe backed placed =
      let n = length view.servers in
      let nodes = nodes_of view in
      let l = one_group_list exists long in
      let here = l.ever l.past l.world l.runs in
      record {
        past = l.past;
        world = l.world;
        runs = l.runs;
        list = l.list;
        long = l.long;
        chain = l.ever;
        safe = safe n nodes view.trace l.past l.world (group_run l.past l.world l.runs) l.list here;
        backed = λ past w q. backed n nodes view.trace past w (group_run past w q) l.list (l.ever past w q);
        placed = λ past w q. placed n nodes view.trace past w (group_run past w q) l.list (l.ever past w q);
      }
