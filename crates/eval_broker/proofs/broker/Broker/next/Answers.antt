use Rattle.std.proofs.Common.{sym, ap, ◌∙◌}
use Rattle.group_model.specs.Brokers.{task_id, deliver}
use Rattle.eval_broker.proofs.Chosen.{next_there, next_few}
use Rattle.eval_broker.proofs.Stored.{has_space, has_room, given_out}
use Rattle.eval_broker.proofs.broker.Broker.next.Goals as goal

pub given-task-requires : goal.given-task-requires
given-task-requires c = next_few c.self.inside.tasks.tasks.rows c.in-Some.task.now c.self.invariant.rising (sym c.in-Some.ensures)

pub put-requires-clause-space : goal.put-requires-clause-space
put-requires-clause-space c =
    let ts = c.self.inside.tasks.tasks.rows in
    let t = c.in-Some.task.now in
    has_space ts t c.given-task.result c.self.invariant.rising (next_there ts t c.self.invariant.rising (sym c.in-Some.ensures)) (ap task_id c.given-task.ensures) c.self.inside.tasks.tasks.capacity

pub put-requires-clause-capacity : goal.put-requires-clause-capacity
put-requires-clause-capacity c =
    let ts = c.self.inside.tasks.tasks.rows in
    let t = c.in-Some.task.now in
    has_room ts t c.given-task.result c.self.invariant.rising (next_there ts t c.self.invariant.rising (sym c.in-Some.ensures)) (ap task_id c.given-task.ensures) c.self.inside.tasks.lists c.self.invariant.capacity

pub returns-clause-gives : goal.returns-clause-gives
returns-clause-gives c =
    let ts = c.self.inside.tasks.tasks.rows in
    let t = c.in-Some.task.now in
    let left = c.in-Some-serial_after.ensures.some in
    ap (deliver c.args.term c.args.wait) (sym c.self.view_is)
    ∙ given_out ts c.put.new.self.tasks.rows t c.given-task.result c.self.invariant.rising c.put.ensures.rows c.args.term c.args.wait c.self.inside.serial c.in-Some-serial_after.serial c.next-self-inside.result c.id.result
    (next_there ts t c.self.invariant.rising (sym c.in-Some.ensures)) (sym c.in-Some.ensures) left.2 left.0 c.next-self-inside.ensures c.id.ensures c.given-task.ensures
