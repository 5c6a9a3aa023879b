use Rattle.std.proofs.Common.{◌≡◌, ◌+◌, ◌<◌, ◌^◌}
use Rattle.raft_records.specs.Remembering.{SharesTerms}
use Rattle.raft_records.proofs.delta.kept.Given as goal

-- as many terms were the same
abbrev pub invariant-terms : goal.invariant-terms
invariant-terms g l = record { is : l.keep ≡ l.fn.commit + l.term-index; small : l.keep < 2 ^ 40; same : SharesTerms l.fn.commit l.terms l.keep l.server }
