use Rattle.std.proofs.Common.{◌≡◌, ◌==◌, ◌%◌, filter}
use Rattle.std.specs.List.{range_with_len}
use Rattle.sim_recovery.proofs.table.moments_of.Given as goal

-- the multiples so far
abbrev pub invariant-loop-after : goal.invariant-loop-after
invariant-loop-after l = l.moments.items ≡ filter (λ k. k % l.every == 0) (range_with_len 0 l.after)
