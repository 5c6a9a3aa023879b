use Rattle.raft_snapshot.proofs.TermsOfMerges.{tells_merge}
use Rattle.raft_snapshot.proofs.TermsOfSteps.{step_tells}
use Rattle.raft_snapshot.proofs.laws.steps_keep_terms_told.Goals as goal

pub returns-clause-merged : goal.returns-clause-merged
returns-clause-merged g c = λ commit prev log entries reaches within. tells_merge commit prev log entries reaches within

pub returns-clause-steps : goal.returns-clause-steps
returns-clause-steps g c = λ n me s reaches within input turn e stays. step_tells g.M.Machine.spec n me s reaches within input turn e stays
