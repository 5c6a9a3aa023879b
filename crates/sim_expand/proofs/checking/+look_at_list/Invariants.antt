use Rattle.sim_expand.proofs.checking.+look_at_list.Given as goal

-- how deep lists may still lie in the list
abbrev pub decreases-look_at_list : goal.decreases-look_at_list
decreases-look_at_list l = l.place.now.depth
