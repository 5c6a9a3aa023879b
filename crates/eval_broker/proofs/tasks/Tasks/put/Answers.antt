use Rattle.std.proofs.Common.{subst}
use Rattle.rows.specs.declared.evaluation.EvalId.{EvalId}
use Rattle.rows.specs.Keys.{eval_cmp}
use Rattle.fsm_tables.specs.ReservedTables.{without}
use Rattle.group_model.specs.Brokers.{task_id}
use Rattle.eval_broker.specs.Inner.Lists.{AreTaskLists}
use Rattle.eval_broker.proofs.tasks.Tasks.put.Goals as goal

pub bring_in-requires-clause-listed : goal.bring_in-requires-clause-listed
bring_in-requires-clause-listed c = subst (λ (id : EvalId). AreTaskLists (without eval_cmp task_id id c.args.self.now.tasks.rows) c.take_out.new.self) c.id.ensures c.take_out.ensures.listed
