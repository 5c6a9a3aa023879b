use Rattle.std.proofs.Common.{◌≤◌, length, sym, ◌∙◌, arith}
use Rattle.rows.specs.Keys.{eval_cmp}
use Rattle.fsm_tables.specs.ReservedTables.{without}
use Rattle.fsm_tables.specs.Urgencies.{urgency_cmp}
use Rattle.group_model.specs.Brokers.{task_id}
use Rattle.eval_broker.specs.Inner.Lists.{rank_cmp}
use Rattle.eval_broker.proofs.Heads.{few_heads}
use Rattle.eval_broker.proofs.Relisting.{heads_out, ranks_out, failed_out, all_listed, none_goes, no_more}
use Rattle.eval_broker.proofs.lists.Lists.take_out.Goals as goal

pub add_head-requires-clause-heads : goal.add_head-requires-clause-heads
add_head-requires-clause-heads c =
    heads_out c.job-job.result c.in-Some.task.now c.rank.result c.args.self.now.ranks.rows c.cut.new.self.rows c.drop_head.new.self.heads.rows c.job-job.ensures c.rank.ensures
    (c.cut.ensures.rows ∙ (λ i. without rank_cmp (λ x. x) c.rank.result (c.drop_head.ensures.ranks i).rows)) c.drop_head.ensures.heads

pub add_head-requires-clause-capacity : goal.add_head-requires-clause-capacity
add_head-requires-clause-capacity c =
    let ts = c.args.tasks.now.rows in
    let id = c.args.id.now in
    let task = c.in-Some.task.now in
    let to = c.cut.ensures.rows ∙ (λ i. without rank_cmp (λ x. x) c.rank.result (c.drop_head.ensures.ranks i).rows) in
    let few : length (without eval_cmp task_id id ts) ≤ length ts = no_more id ts in
    let most : length (without eval_cmp task_id id ts) ≤ c.drop_head.new.self.heads.capacity = omega (arith, few, c.requires.capacity.heads, c.drop_head.ensures.capacity) in
    few_heads (without eval_cmp task_id id ts) c.cut.new.self.rows c.drop_head.new.self.heads.capacity most
    (ranks_out id ts task c.rank.result c.args.self.now.ranks.rows c.cut.new.self.rows (sym c.in-Some.ensures) c.rank.ensures to c.requires.listed.ranks)

pub returns-in-Some-clause-listed : goal.returns-in-Some-clause-listed
returns-in-Some-clause-listed c =
    let ts = c.args.tasks.now.rows in
    let id = c.args.id.now in
    let task = c.in-Some.task.now in
    all_listed (without eval_cmp task_id id ts) c.add_head.new.self c.cut.new.self c.cut-in-Some.new.self c.add_head.ensures.ranks c.add_head.ensures.failed
    (ranks_out id ts task c.rank.result c.args.self.now.ranks.rows c.cut.new.self.rows (sym c.in-Some.ensures) c.rank.ensures
    (c.cut.ensures.rows ∙ (λ i. without rank_cmp (λ x. x) c.rank.result (c.drop_head.ensures.ranks i).rows)) c.requires.listed.ranks)
    c.add_head.ensures.heads
    (failed_out id ts task c.urgency.result c.args.self.now.failed.rows c.cut-in-Some.new.self.rows (sym c.in-Some.ensures) c.urgency.ensures
    (c.cut-in-Some.ensures.rows ∙ (λ i. without urgency_cmp (λ x. x) c.urgency.result (c.drop_head.ensures.failed i).rows)) c.requires.listed.failed)

pub returns-in_default-clause-listed : goal.returns-in_default-clause-listed
returns-in_default-clause-listed c = none_goes c.args.id.now c.args.tasks.now.rows c.args.self.now (sym c.in_default.ensures) c.requires.listed
