use Rattle.sim_sweep.proofs.sweeping.sweep.Goals as goal

pub in_order-requires : goal.in_order-requires
in_order-requires g c = λ position row at. c.in_ok-found.ensures.found position row (rw c.deref-2.ensures.value at at)
