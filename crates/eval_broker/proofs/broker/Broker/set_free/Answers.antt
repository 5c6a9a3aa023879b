use Rattle.std.proofs.Common.{refl, sym, ap, ◌∙◌}
use Rattle.group_model.specs.Brokers.{Free, task_id, set_mark, with_nack}
use Rattle.eval_broker.proofs.Listings.{found_own}
use Rattle.eval_broker.proofs.Stored.{has_space, has_room, in_place, none_changed}
use Rattle.eval_broker.proofs.broker.Broker.set_free.Goals as goal

pub put-requires-clause-space : goal.put-requires-clause-space
put-requires-clause-space c =
    let ts = c.self.inside.tasks.tasks.rows in
    let t = c.in-Some.task.now in
    has_space ts t c.freed-task.result c.self.invariant.rising (found_own c.args.eval.now ts t (sym c.in-Some.ensures)) (ap task_id c.freed-task.ensures) c.self.inside.tasks.tasks.capacity

pub put-requires-clause-capacity : goal.put-requires-clause-capacity
put-requires-clause-capacity c =
    let ts = c.self.inside.tasks.tasks.rows in
    let t = c.in-Some.task.now in
    has_room ts t c.freed-task.result c.self.invariant.rising (found_own c.args.eval.now ts t (sym c.in-Some.ensures)) (ap task_id c.freed-task.ensures) c.self.inside.tasks.lists c.self.invariant.capacity

pub returns-in-Some : goal.returns-in-Some
returns-in-Some c =
    let ts = c.self.inside.tasks.tasks.rows in
    in_place ts c.put.new.self.tasks.rows c.in-Some.task.now c.freed-task.result c.self.invariant.rising c.put.ensures.rows (set_mark Free) (λ x. refl) c.args.eval.now c.self.inside.serial (sym c.in-Some.ensures) c.freed-task.ensures
    ∙ ap (with_nack c.args.eval.now) c.self.view_is

pub returns-in_default : goal.returns-in_default
returns-in_default c =
    sym c.self.view_is
    ∙ (λ i. record { tasks = sym (none_changed (set_mark Free) (λ x. refl) c.args.eval.now c.self.inside.tasks.tasks.rows (sym c.in_default.ensures)) i; serial = c.self.inside.serial })
    ∙ ap (with_nack c.args.eval.now) c.self.view_is
