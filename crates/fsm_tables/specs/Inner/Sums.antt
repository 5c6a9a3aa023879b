-- Running sums: for each node what the live allocations take of it.
use Rattle.std.specs.Prelude.{ℕ, ◌≡◌, ◌<◌, ◌≤◌, ◌+◌, ◌-◌, cond, List, Option, Some, None, get_or, nat_eq}
use Rattle.rows.specs.declared.size.Size.{Size}
use Rattle.rows.specs.Sizes.{Part, amount, no_size}
use Rattle.rows.specs.declared.allocation.Allocation.{Allocation}
use Rattle.fsm_tables.specs.Claims.{Claim, claim_of, claims, on_node, used, is_live}
use Rattle.fsm_tables.specs.declared.usage.Share.{Share}

-- each node's sum is its use by the live allocations; entry 0 is nobody's
abbrev pub AreSummed : List Allocation → List Size → Type 0
AreSummed rows sums = (n : ℕ) → n < 65 → get_or sums n no_size ≡ used n (claims rows)

-- what a row adds to a sum, and no row adds nothing
abbrev pub weight_of : {X : Type 0} → (X → ℕ) → Option X → ℕ
weight_of w None = 0
weight_of w (Some x) = w x

-- what one row adds to a sum over the claims
abbrev pub weight : (Claim → ℕ) → Allocation → ℕ
weight w a = cond (is_live a) (w (claim_of a)) 0

-- a part of a node's sum, and of what a share has of the node
abbrev pub sum_at : List Size → ℕ → Part → ℕ
sum_at sums n p = amount p (get_or sums n no_size)

abbrev pub share_at : Share → ℕ → Part → ℕ
share_at s n p = cond (nat_eq s.node n) (amount p s.size) 0

-- a share is what the row, or no row, adds to each node's sum
pub record IsShare (row : Option Allocation) (s : Share) : Type 0 where
  pub place : s.node < 65
  pub small : (p : Part) → amount p s.size ≤ 1000000
  pub adds : (p : Part) (n : ℕ) → share_at s n p ≡ weight_of (weight (on_node n p)) row

-- the sums with a share
abbrev pub AreMore : Share → List Size → List Size → Type 0
AreMore s old new = (p : Part) (n : ℕ) → n < 65 → sum_at new n p ≡ sum_at old n p + share_at s n p

-- and without one
abbrev pub AreLess : Share → List Size → List Size → Type 0
AreLess s old new = (p : Part) (n : ℕ) → n < 65 → sum_at new n p ≡ sum_at old n p - share_at s n p
