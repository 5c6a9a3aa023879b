use Rattle.sim_expand.proofs.checking.is_good.Goals as goal

pub returns-in-Plain : goal.returns-in-Plain
returns-in-Plain c =
    let is = rw c.as_str.ensures.value at c.is_step.ensures in
    rw c.in-Plain.is is
