-- What a plan and the nodes of a state are to one group of a job.
use Rattle.std.specs.Prelude.{◌≡◌, ℕ, ◌<◌, ◌↔◌, Bool, true, false, if◌then◌else◌, not, ◌&&◌, ◌||◌, nat_eq, nat_le, nat_lt, bytes_eq, List, [], Option, None, Some, filter, length, map}
use Rattle.std.specs.List.{AllZip, count_by}
use Rattle.rows.specs.declared.job.Group.{Group}
use Rattle.rows.specs.declared.job.Job.{Job}
use Rattle.rows.specs.declared.evaluation.Evaluation.{Evaluation}
use Rattle.rows.specs.declared.plan.Place.{Place}
use Rattle.fsm_tables.specs.Claims.{claims}
use Rattle.fsm_model.specs.Words.{State, job_of}
use Rattle.group_model.specs.Scheduling.{IsPlanFor, WorkerPlan, MOST_CHANGES, fits_nowhere, has_room_for, is_missing, names_from}
use Rattle.sim_metrics.specs.Verdicts.{is_verdict, verdict}
use Rattle.sim_metrics.specs.declared.metrics.GroupMetrics.{GroupMetrics}
use Rattle.sim_metrics.specs.declared.verdict.Verdict.TheVariants.{HasRoom}

-- the place is of the group of this name
abbrev pub is_place_of : List ℕ → Place → Bool
is_place_of name k = bytes_eq k.group name

-- a plan ends with 64 stops or 64 places
abbrev pub ends_full : WorkerPlan → Bool
ends_full p = nat_le MOST_CHANGES (length p.stops) || nat_le MOST_CHANGES (length p.places)

-- how many of a group are missing
abbrev pub count_missing : State → List ℕ → Group → ℕ
count_missing s job g = length (filter (is_missing s job) (names_from g 0 g.count))

-- some of the group is missing, and the plan, which did not end full, places none of it
abbrev pub fits_on_none : GroupMetrics → Bool
fits_on_none m = nat_lt 0 m.missing && (nat_eq m.placed 0 && not m.ends_full)

abbrev pub FitsOnNone : State → List ℕ → WorkerPlan → Group → Type 0
FitsOnNone s job p g =
    (0 < count_missing s job g) × (count_by (is_place_of g.name) p.places ≡ 0) × (ends_full p ≡ false)

-- What is said of a group, of a plan, and of the nodes where so much is claimed as lives.
pub record IsOfGroup (s : State) (job : List ℕ) (p : WorkerPlan) (g : Group) (m : GroupMetrics) : Type 0 where
  pub group : m.group ≡ g
  pub missing : m.missing ≡ count_missing s job g
  pub placed : m.placed ≡ count_by (is_place_of g.name) p.places
  pub full : m.ends_full ≡ ends_full p
  pub verdicts : m.verdicts.items ≡ map (verdict (claims s.allocs) g) s.nodes
  -- it is said to fit on none exactly where that is so
  pub none : (fits_on_none m ≡ true) ↔ FitsOnNone s job p g
  -- of each node it is said to have room exactly where the definition finds room on it
  pub room : map (is_verdict HasRoom) m.verdicts.items ≡ map (has_room_for (claims s.allocs) g) s.nodes
  -- and none is said to have room exactly where the definition finds room on none
  pub nowhere : (count_by (is_verdict HasRoom) m.verdicts.items ≡ 0) ↔ (fits_nowhere s (claims s.allocs) g ≡ true)

-- the groups whose allocations a job wants: none where it is stopped or has no row
abbrev pub wanted_groups : Option Job → List Group
wanted_groups None = []
wanted_groups (Some j) = if j.stopped then [] else j.groups

-- of each wanted group in its order, by the plan that the definition allows for the evaluation at the
-- state
abbrev pub AreMetrics : State → Evaluation → List GroupMetrics → Type 0
AreMetrics s e all =
    (p : WorkerPlan) × IsPlanFor s e s.count p × AllZip (IsOfGroup s e.job p) (wanted_groups (job_of e.job s)) all
