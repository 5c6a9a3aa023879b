use Rattle.raft_safety.proofs.Chains as chains
use Rattle.raft_safety.proofs.Settling.{settled, stood_later}
use Rattle.raft_safety.proofs.tickets.commit_is_final.Goals as goal

pub returns : goal.returns
returns g c = let m = g.M.Machine.spec in let law = g.met.M.Machine.lawful in record {
  settled = λ n events past w r list chain k i index s a one le.
      settled past w (chains.log_matching m law n events past w r) list chain k i index s a one le;
  stood = stood_later;
}
