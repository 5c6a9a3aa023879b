use Rattle.std.proofs.Common.{◌∙◌, length, ap}
use Rattle.recovery.proofs.GroupDriving.{group_sent_length}
use Rattle.recovery.proofs.group_driven.WorldDriven.sent_count.Goals as goal

pub returns : goal.returns
returns c = group_sent_length c.args.self.now c.len.result (c.len.ensures ∙ ap length c.sent.ensures.value)
