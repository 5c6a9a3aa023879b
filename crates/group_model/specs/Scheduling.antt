-- What a scheduling worker plans for an evaluation from a state: which allocations of its job stop,
-- and on which nodes the missing ones are placed. A plan is told by what holds of it when it is
-- finished, name after name. (Nomad documentation, "Scheduling in Nomad": reconciling what a job
-- asks for with what runs, feasibility and ranking of nodes.)
use Rattle.std.specs.Prelude.{◌≡◌, ◌⊎◌, ℕ, zero, suc, ◌+◌, ◌*◌, ◌/◌, Bool, true, false, not, ◌&&◌, ◌||◌, if◌then◌else◌, nat_eq, nat_lt, nat_le, bytes_eq, Option, Some, None, List, [], ◌∷◌, ◌++◌, length, map, filter, take}
use Rattle.std.specs.List.{list_any, list_all}
use Rattle.rows.specs.declared.size.Size.{Size}
use Rattle.rows.specs.declared.job.Group.{Group}
use Rattle.rows.specs.declared.job.Job.{Job}
use Rattle.rows.specs.declared.node.Node.{Node}
use Rattle.rows.specs.declared.evaluation.Evaluation.{Evaluation}
use Rattle.rows.specs.declared.allocation.AllocId.{AllocId}
use Rattle.rows.specs.declared.allocation.Allocation.{Allocation}
use Rattle.rows.specs.declared.plan.Place.{Place}
use Rattle.rows.specs.declared.command.AcceptedPlace.{AcceptedPlace}
use Rattle.fsm_tables.specs.Claims.{Claim, claims, used}
use Rattle.fsm_tables.specs.LiveNames.{live_named}
use Rattle.fsm_tables.specs.Lookups.{lives_for}
use Rattle.fsm_model.specs.Words.{State, job_of, node_of, is_some_and}
use Rattle.rows.specs.Sizes.{plus, fits, same_size}
use Rattle.fsm_model.specs.Effect.{stop}
use Rattle.fsm_model.specs.Admission.{may_hold}
use Rattle.group_model.specs.Acceptance.{place_claims}

-- ---- the names that a job wants

-- one of the allocations that a group is to have: with its job it is the name `job.group[index]`
pub record WantedName : Type 0 where
  pub group : Group
  pub index : ℕ

-- so many of a group, from an index on
abbrev pub names_from : Group → ℕ → ℕ → List WantedName
names_from g i zero = []
names_from g i (suc n) = record { group = g; index = i } ∷ names_from g (i + 1) n

-- of each group those from 0 to its count less 1
abbrev pub names_of_groups : List Group → List WantedName
names_of_groups [] = []
names_of_groups (g ∷ gs) = names_from g 0 g.count ++ names_of_groups gs

-- by the groups in their order; none where the job is stopped or has no row
abbrev pub wanted_names : Option Job → List WantedName
wanted_names None = []
wanted_names (Some j) = if j.stopped then [] else names_of_groups j.groups

-- ---- what lives of the job, and what is missing

abbrev pub is_of_name : Allocation → WantedName → Bool
is_of_name a w = bytes_eq a.group w.group.name && nat_eq a.index w.index

-- it lives, of the job, under a name that is not wanted
abbrev pub is_unwanted : State → List ℕ → Allocation → Bool
is_unwanted s job a = lives_for job a && not (list_any (is_of_name a) (wanted_names (job_of job s)))

-- the most stops, and the most places, of one plan
abbrev pub MOST_CHANGES : ℕ
MOST_CHANGES = 64

-- they stop, in rising id, the first 64
abbrev pub unwanted_stops : State → List ℕ → List AllocId
unwanted_stops s job =
    let rows = filter (is_unwanted s job) s.allocs in
    take MOST_CHANGES (map (λ (a : Allocation). a.id) rows)

-- the live allocation of a name: where names are held once there is one at most
abbrev pub live_of_name : State → List ℕ → WantedName → Option Allocation
live_of_name s job w =
    live_named (record { job = job; group = w.group.name; index = w.index }) s.allocs

-- it has no migrate mark, its size is the group's, and its node's class too
abbrev pub is_current : State → WantedName → Allocation → Bool
is_current s w a =
    not a.migrate && same_size a.size w.group.size
    && is_some_and (λ n. bytes_eq n.class w.group.class) (node_of a.node s)

abbrev pub is_missing : State → List ℕ → WantedName → Bool
is_missing s job w = not (is_some_and (is_current s w) (live_of_name s job w))

-- the wanted names without a current allocation, in their order
abbrev pub missing_names : State → List ℕ → List WantedName
missing_names s job = filter (is_missing s job) (wanted_names (job_of job s))

-- ---- a part of a plan: its first stops and places, the places with the sizes of their groups

pub record PlanPart : Type 0 where
  pub stops : List AllocId
  pub places : List AcceptedPlace

-- with 64 stops or 64 places a plan ends
abbrev pub is_full : PlanPart → Bool
is_full p = nat_le MOST_CHANGES (length p.stops) || nat_le MOST_CHANGES (length p.places)

-- with a stop more, if there is something to stop
abbrev pub with_stop : Option Allocation → PlanPart → PlanPart
with_stop None p = p
with_stop (Some a) p = record p { stops = p.stops ++ a.id ∷ [] }

-- with a place more: the name on a node
abbrev pub place_on : WantedName → Node → AcceptedPlace
place_on w n = record {
  group = w.group.name;
  index = w.index;
  node = n.number;
  size = w.group.size;
}

abbrev pub with_place : WantedName → Node → PlanPart → PlanPart
with_place w n p = record p { places = p.places ++ place_on w n ∷ [] }

-- what is claimed at the state once this is done
abbrev pub claimed_by : State → List ℕ → PlanPart → List Claim
claimed_by s job p = claims (map (stop p.stops) s.allocs) ++ place_claims job p.places

-- ---- the node for a name, where so much is claimed

-- the node's use with one more of the group
abbrev pub use_with : List Claim → Group → Node → Size
use_with cs g n = plus (used n.number cs) g.size

-- the node is ready, eligible and of the class, and has room for it
abbrev pub has_room_for : List Claim → Group → Node → Bool
has_room_for cs g n = may_hold g n && fits (use_with cs g n) n.size

-- how full a node of a size is with so much of it in use: thousandths of its processor time, and of
-- its memory, each rounded down, together
abbrev pub fullness : Size → Size → ℕ
fullness load size = (1000 * load.cpu) / size.cpu + (1000 * load.mem) / size.mem

abbrev pub fullness_with : List Claim → Group → Node → ℕ
fullness_with cs g n = fullness (use_with cs g n) n.size

-- the one gets fuller than the other, or as full and its number is not higher
abbrev pub is_as_good : List Claim → Group → Node → Node → Bool
is_as_good cs g n m =
    nat_lt (fullness_with cs g m) (fullness_with cs g n)
    || (nat_eq (fullness_with cs g m) (fullness_with cs g n) && nat_le n.number m.number)

-- The best node: it is one of the nodes, has room, and is as good as each that has room.
pub record IsBest (s : State) (cs : List Claim) (g : Group) (n : Node) : Type 0 where
  pub there : node_of n.number s ≡ Some n
  pub fits : has_room_for cs g n ≡ true
  pub best : list_all (λ m. not (has_room_for cs g m) || is_as_good cs g n m) s.nodes ≡ true

-- no node has room
abbrev pub fits_nowhere : State → List Claim → Group → Bool
fits_nowhere s cs g = list_all (λ n. not (has_room_for cs g n)) s.nodes

-- ---- one name after the other

-- Of a missing name, behind a part of the plan: no node has room, and the plan has no stop and no
-- place for it; or it is placed on the best node, and its old allocation stops. Either way the room
-- of the old allocation is counted as free.
abbrev pub IsNext : State → List ℕ → WantedName → PlanPart → PlanPart → Type 0
IsNext s job w p next =
    let old = live_of_name s job w in
    let cs = claimed_by s job (with_stop old p) in
    ((fits_nowhere s cs w.group ≡ true) × (next ≡ p))
    ⊎ ((n : Node) × IsBest s cs w.group n × (next ≡ with_place w n (with_stop old p)))

-- The finished plan begins with this part, and goes on with these names: a part that is full is the
-- whole plan, and so it is where no name is left.
abbrev pub GoesOn : State → List ℕ → PlanPart → List WantedName → PlanPart → Type 0
GoesOn s job p [] whole = whole ≡ p
GoesOn s job p (w ∷ ws) whole =
    ((is_full p ≡ true) × (whole ≡ p))
    ⊎ ((is_full p ≡ false)
    × ((next : PlanPart) × IsNext s job w p next × GoesOn s job next ws whole))

-- ---- the plan

-- as a worker has it; with an evaluation and a token it is one for the leader
pub record WorkerPlan : Type 0 where
  pub stops : List AllocId
  pub places : List Place
  pub version : ℕ
  pub snapshot : ℕ
  pub all_placed : Bool

abbrev pub unsized : AcceptedPlace → Place
unsized k = record { group = k.group; index = k.index; node = k.node }

-- the job's version, 0 where it has no row
abbrev pub version_of : Option Job → ℕ
version_of None = 0
version_of (Some j) = j.version

abbrev pub first_part : State → List ℕ → PlanPart
first_part s job = record { stops = unwanted_stops s job; places = [] }

-- The plan for an evaluation at the state of this index: first the stops of what is not wanted,
-- then name after name. All is placed where it has as many places as names are missing.
pub record IsPlanFor (s : State) (e : Evaluation) (index : ℕ) (p : WorkerPlan) : Type 0 where
  pub whole : PlanPart
  pub goes_on : GoesOn s e.job (first_part s e.job) (missing_names s e.job) whole
  pub stops : p.stops ≡ whole.stops
  pub places : p.places ≡ map unsized whole.places
  pub version : p.version ≡ version_of (job_of e.job s)
  pub snapshot : p.snapshot ≡ index
  pub all_placed : p.all_placed ≡ nat_eq (length p.places) (length (missing_names s e.job))
