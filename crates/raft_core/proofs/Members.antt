-- Members of a group.
use Rattle.std.proofs.Common.{ℕ, ◌≤◌, inl, inr, arith}
use Rattle.rows.specs.GroupSizes.{IsGroup}

pub group-small : (n : ℕ) → IsGroup n → n ≤ 5
group-small n (inl three) = omega arith
group-small n (inr five) = omega arith
