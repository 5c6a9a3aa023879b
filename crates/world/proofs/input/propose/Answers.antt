use Rattle.world.proofs.input.propose.Goals as goal

pub returns-in-NoMemory-clause-refused : goal.returns-in-NoMemory-clause-refused
returns-in-NoMemory-clause-refused g c = rw c.in-NoMemory.is at c.in-Err.ensures.refused
