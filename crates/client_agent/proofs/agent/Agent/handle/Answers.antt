use Rattle.std.proofs.Common.{[], append-nil, refl, sym}
use Rattle.client_agent.proofs.Receiving.{takes_other}
use Rattle.client_agent.proofs.agent.Agent.handle.Goals as goal

pub returns : goal.returns
returns c = record {
  same = refl;
  grows = ([], sym (append-nil c.args.self.now.client.started));
  taken = takes_other c.args.self.now c.args.received.from c.args.received.body c.args.outbox.now c.requires c.in_default.not-List;
  lost = tt;
  unsent = tt;
}
