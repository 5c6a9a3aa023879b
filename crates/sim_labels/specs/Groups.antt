-- When there may be a group, of which a run is shown.
use Rattle.std.specs.Prelude.{ℕ, ◌≤◌, List, length}
use Rattle.rows.specs.declared.node.NodeSpec.{NodeSpec}
use Rattle.rows.specs.GroupSizes.{IsGroup}

-- a group of so many servers and of these nodes' clients may be
abbrev pub MayBe : ℕ → List NodeSpec → Type 0
MayBe servers nodes = IsGroup servers × (length nodes ≤ 64)

-- there is no such group
abbrev pub MayNotBe : ℕ → List NodeSpec → Type 0
MayNotBe servers nodes = IsGroup servers → length nodes ≤ 64 → ⊥
