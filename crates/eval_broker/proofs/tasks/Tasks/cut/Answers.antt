use Rattle.std.proofs.Common.{T, List, length, sym, subst}
use Rattle.rows.specs.Keys.{eval_cmp}
use Rattle.rows.proofs.KeyLaws.{eval_cmp_total}
use Rattle.rows.specs.Rising.{is_rising}
use Rattle.fsm_tables.proofs.ReservedTables.{rising_without}
use Rattle.group_model.specs.Brokers.{Task, task_id}
use Rattle.eval_broker.specs.Inner.Lists.{AreTaskLists, HaveCapacity}
use Rattle.eval_broker.proofs.Relisting.{no_more}
use Rattle.eval_broker.proofs.Stored.{capacity_kept, no_loss}
use Rattle.fsm_tables.specs.ReservedTables.{without}
use Rattle.eval_broker.proofs.tasks.Tasks.cut.Goals as goal

pub returns-clause-kept : goal.returns-clause-kept
returns-clause-kept c =
    let ts = c.args.self.now.tasks.rows in
    let id = c.args.id.now in
    record {
      rising = subst (λ (us : List Task). T (is_rising eval_cmp task_id us)) (sym c.cut.ensures.rows) (rising_without eval_cmp task_id eval_cmp_total id ts c.requires.kept.rising);
      listed = subst (λ (us : List Task). AreTaskLists us c.take_out.new.self) (sym c.cut.ensures.rows) c.take_out.ensures.listed;
      capacity = subst (λ (us : List Task). HaveCapacity (length us) c.take_out.new.self) (sym c.cut.ensures.rows)
          (capacity_kept (length ts) (length (without eval_cmp task_id id ts)) c.args.self.now.lists c.args.self.now.lists c.take_out.new.self (no_more id ts) c.requires.kept.capacity (no_loss c.args.self.now.lists) c.take_out.ensures.kept);
    }
