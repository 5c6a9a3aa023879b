use Rattle.std.proofs.Common.{◌∙◌, length, ap}
use Rattle.recovery.proofs.LogDriving.{sent_length}
use Rattle.recovery.proofs.log_driven.RaftWorldDriven.sent_count.Goals as goal

pub returns : goal.returns
returns g c = sent_length g.M.Machine.spec c.args.self.now c.len.result (c.len.ensures ∙ ap length c.sent.ensures)
