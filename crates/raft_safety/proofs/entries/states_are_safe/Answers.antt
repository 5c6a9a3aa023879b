use Rattle.raft_safety.proofs.Chains.{chain_safe, log_safe, log_commands}
use Rattle.raft_safety.proofs.entries.states_are_safe.Goals as goal

pub returns : goal.returns
returns g c = let m = g.M.Machine.spec in let law = g.met.M.Machine.lawful in record {
  list = chain_safe m law;
  log = log_safe m law;
  admitted = log_commands m law;
}
