-- When the state after a plan is safe, told by what the plan stops, leaves and places.
use Rattle.std.specs.Prelude.{ℕ, ◌+◌, ◌<◌, ◌≤◌, Bool, not, ◌&&◌, T, List, [], ◌∷◌, ◌++◌, map, Option, Some, None, length, nat_eq, nat_lt, nat_le, if◌then◌else◌}
use Rattle.std.specs.List.{AllByRecursion, list_all, list_any}
use Rattle.std.specs.Ordering.{nat_cmp}
use Rattle.rows.specs.declared.node.Node.{Node}
use Rattle.rows.specs.declared.size.Size.{Size}
use Rattle.rows.specs.declared.allocation.Allocation.{Allocation}
use Rattle.rows.specs.Keys.{node_number, alloc_cmp, alloc_id}
use Rattle.rows.specs.Rising.{is_rising}
use Rattle.rows.specs.Fits.{AllocationFits, NodeFits, AcceptedPlaceFits}
use Rattle.fsm_tables.specs.Rows.{row_of}
use Rattle.fsm_tables.specs.Claims.{Claim, claim_of, claims, used, is_live}
use Rattle.rows.specs.Sizes.{no_size, fits}
use Rattle.fsm_model.specs.Safe.{are_distinct, same_name}
use Rattle.fsm_model.specs.Effect.{is_ended_by, stop}
use Rattle.rows.specs.declared.command.AcceptedPlace.{AcceptedPlace}
use Rattle.rows.specs.declared.command.AcceptedPlan.{AcceptedPlan}
use Rattle.rows.specs.Limits.{most_allocs}
use Rattle.fsm_model.specs.Words.{State}

-- ---- what a number has, and what a change of rows ends

-- what a number has: its node's size, and nothing where it has no node
abbrev pub room_of : Option Node → Size
room_of None = no_size
room_of (Some n) = n.size

abbrev pub fits_number : List Node → List Claim → ℕ → Bool
fits_number nodes cs n = fits (used n cs) (room_of (row_of nat_cmp node_number n nodes))

-- the rows that a change ends
abbrev pub ended : (Allocation → Allocation) → List Allocation → List Claim
ended f [] = []
ended f (a ∷ rows) = if is_ended_by f a then (claim_of a ∷ ended f rows) else ended f rows

-- ---- a plan on a state whose allocations were made by entries before it

-- what the rows leave to the plan: the claims of what it does not stop
abbrev pub kept_claims : AcceptedPlan → State → List Claim
kept_claims p s = claims (map (stop p.stops) s.allocs)

abbrev pub place_claim : AcceptedPlan → AcceptedPlace → Claim
place_claim p k = record {
  job = p.job;
  group = k.group;
  index = k.index;
  node = k.node;
  size = k.size;
}

-- what it claims anew
abbrev pub wanted : AcceptedPlan → List Claim
wanted p = map (place_claim p) p.places

-- no claim is of the name of one of the others
abbrev pub are_free : List Claim → List Claim → Bool
are_free cs ds = list_all (λ c. not (list_any (same_name c) ds)) cs

-- every allocation was made by an entry before x
abbrev pub are_dated : ℕ → List Allocation → Bool
are_dated x rows = list_all (λ a. nat_lt a.id.index x) rows

-- What is asked of a plan so that the state after it is safe: each number's use, of what the plan
-- keeps and what it wants, is within what the number has; no two of what it keeps are of one name,
-- nor of what it wants, and none of what it keeps is of a name that it wants.
pub record PlanIsSafe (p : AcceptedPlan) (s : State) : Type 0 where
  pub fit : (n : ℕ) → n < 65 → T (fits_number s.nodes (kept_claims p s ++ wanted p) n)
  pub kept_distinct : T (are_distinct (kept_claims p s))
  pub wanted_distinct : T (are_distinct (wanted p))
  pub free : T (are_free (kept_claims p s) (wanted p))

-- what is known where the code asks: rows and plan within their ranges, and each allocation made by
-- an entry before this one
pub record IsAskable (p : AcceptedPlan) (s : State) : Type 0 where
  pub dated : T (are_dated (s.count + 1) s.allocs)
  pub few : length s.allocs + length p.places ≤ most_allocs
  pub rising : T (is_rising nat_cmp node_number s.nodes)
  pub nodes : AllByRecursion NodeFits s.nodes
  pub allocs : AllByRecursion AllocationFits s.allocs
  pub places : AllByRecursion AcceptedPlaceFits p.places

-- ---- a plan on any state, also where a row stands under an id that it makes, as in a loaded text

-- whether a row stands under one of n ids of entry x, from a slot on
abbrev pub is_made : ℕ → ℕ → ℕ → Allocation → Bool
is_made x slot n a = nat_eq a.id.index x && (nat_le slot a.id.slot && nat_lt a.id.slot (slot + n))

-- the claims of the rows, but for those
abbrev pub left : ℕ → ℕ → ℕ → List Allocation → List Claim
left x slot n [] = []
left x slot n (a ∷ rows) =
    if is_live a && not (is_made x slot n a) then (claim_of a ∷ left x slot n rows) else left x slot n rows

-- the claims of what a plan neither stops nor replaces
abbrev pub left_by : AcceptedPlan → State → List Claim
left_by p s = left (s.count + 1) 0 (length p.places) (map (stop p.stops) s.allocs)

-- what is asked of a plan on any state
pub record AfterIsSafe (p : AcceptedPlan) (s : State) : Type 0 where
  pub fit : (n : ℕ) → n < 65 → T (fits_number s.nodes (left_by p s ++ wanted p) n)
  pub distinct : T (are_distinct (left_by p s ++ wanted p))

-- what is known where the code asks
pub record FitsWhereAsked (p : AcceptedPlan) (s : State) : Type 0 where
  pub few : length s.allocs + length p.places ≤ most_allocs
  pub nodes_rising : T (is_rising nat_cmp node_number s.nodes)
  pub allocs_rising : T (is_rising alloc_cmp alloc_id s.allocs)
  pub nodes : AllByRecursion NodeFits s.nodes
  pub allocs : AllByRecursion AllocationFits s.allocs
  pub places : AllByRecursion AcceptedPlaceFits p.places
