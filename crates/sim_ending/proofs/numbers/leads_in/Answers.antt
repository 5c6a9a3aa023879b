use Rattle.std.proofs.Common.{rules}
use Rattle.sim_ending.proofs.Leading.{other_leads_not}
use Rattle.sim_ending.proofs.numbers.leads_in.Goals as goal

pub returns-in_default : goal.returns-in_default
returns-in_default c s is = rw (other_leads_not s.raft.mode c.role.result (c.role.ensures.value s is) (search rules)) (search rules)
