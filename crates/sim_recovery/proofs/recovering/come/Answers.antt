use Rattle.sim_recovery.proofs.recovering.come.Goals as goal

pub returns : goal.returns
returns c = rw c.in_ok-again.ensures.same at c.hand_event.ensures
