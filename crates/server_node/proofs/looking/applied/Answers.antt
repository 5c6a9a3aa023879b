use Rattle.server_node.proofs.Standing.{applied_down, applied_up}
use Rattle.server_node.proofs.looking.applied.Goals as goal

pub returns-in-Some : goal.returns-in-Some
returns-in-Some c = λ s r. let got = c.in-Some.ensures.value s r in applied_up s.raft c.in-Some.applied got.0 got.1

pub returns-in-None : goal.returns-in-None
returns-in-None c = λ s r. applied_down s.raft (c.in-None.ensures.value s r)
