use Rattle.std.proofs.Common.{◌≡◌, ◌++◌, map, filter, drop}
use Rattle.blocked.specs.Rooms.{is_of_job}
use Rattle.blocked.specs.Inner.Anew.{anew_of}
use Rattle.blocked.proofs.of_job.anew_of_job.Given as goal

abbrev pub invariant-loop-held : goal.invariant-loop-held
invariant-loop-held l = l.anew.items ++ map (anew_of l.job) (filter (is_of_job l.job.name) (drop l.held-index l.evals)) ≡ map (anew_of l.job) (filter (is_of_job l.job.name) l.evals)
