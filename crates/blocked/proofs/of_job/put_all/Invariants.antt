use Rattle.std.proofs.Common.{◌≡◌, true, length}
use Rattle.std.specs.List.{list_all}
use Rattle.blocked.specs.Inner.Anew.{is_held, put_all}
use Rattle.blocked.proofs.of_job.put_all.Given as goal

abbrev pub invariant-loop-held : goal.invariant-loop-held
invariant-loop-held l = (put_all l.anew.items l.evals.rows ≡ put_all l.fn.anew.items l.fn.evals.rows) × (list_all (is_held l.evals.rows) l.anew.items ≡ true)

abbrev pub decreases-loop-held : goal.decreases-loop-held
decreases-loop-held l = length l.anew.items
