use Rattle.std.proofs.Common.{◌∙◌}
use Rattle.eval_broker.proofs.FailedOrder.{failed_is}
use Rattle.eval_broker.proofs.tasks.Tasks.failed.Goals as goal

pub returns : goal.returns
returns c = c.rows.ensures.rows ∙ failed_is c.args.self.now.tasks.rows c.args.self.now.lists.failed.rows c.requires.rising c.requires.listed.failed
