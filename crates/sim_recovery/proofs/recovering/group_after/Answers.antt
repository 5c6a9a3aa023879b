use Rattle.sim_recovery.proofs.recovering.group_after.Goals as goal

pub returns-clause-moment : goal.returns-clause-moment
returns-clause-moment c = record { first = c.in_ok-first.first; begun = c.in_ok-first.ensures.new; came = c.in_ok-now.ensures }
