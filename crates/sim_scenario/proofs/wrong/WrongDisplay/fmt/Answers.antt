use Rattle.sim_scenario.proofs.wrong.WrongDisplay.fmt.Goals as goal

pub returns-in-Wanted-clause-writes : goal.returns-in-Wanted-clause-writes
returns-in-Wanted-clause-writes g c = rw c.in-Wanted.is c.write-in-Wanted.ensures.writes
