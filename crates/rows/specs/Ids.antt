-- The order of allocation ids, and lists of them, and of nodes, in strictly rising order.
use Rattle.std.specs.Prelude.{ℕ, ◌≤◌, ◌≡◌, Bool, true, List, [], length}
use Rattle.std.specs.declared.cmp.Ordering.{Ordering}
use Rattle.std.specs.Ordering.{nat_cmp, ordering_then}
use Rattle.rows.specs.declared.allocation.AllocId.{AllocId}
use Rattle.rows.specs.Rising.{keeps, is_behind}

-- by the entry that made them, and then by their place in it
abbrev pub alloc_cmp : AllocId → AllocId → Ordering
alloc_cmp a b = ordering_then (nat_cmp a.index b.index) (nat_cmp a.slot b.slot)

-- above the last one
abbrev pub id_rises : List AllocId → AllocId → Bool
id_rises front id = is_behind alloc_cmp (λ a. a) front id

-- 1 to 64, strictly rising
abbrev pub AreRisingIds : List AllocId → Type 0
AreRisingIds ids = (1 ≤ length ids) × (length ids ≤ 64) × (keeps id_rises [] ids ≡ true)

-- above the last one
abbrev pub node_rises : List ℕ → ℕ → Bool
node_rises front n = is_behind nat_cmp (λ a. a) front n

-- strictly rising
abbrev pub AreRisingNodes : List ℕ → Type 0
AreRisingNodes nodes = keeps node_rises [] nodes ≡ true
