use Rattle.raft_safety.proofs.Numbers.{server_limits, message_within}
use Rattle.raft_safety.proofs.servers.within_limits.Goals as goal

pub returns : goal.returns
returns g c = let m = g.M.Machine.spec in record {
  servers = server_limits m g.met.M.Machine.lawful;
  messages = message_within m;
}
