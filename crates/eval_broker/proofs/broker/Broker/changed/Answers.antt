use Rattle.std.proofs.Common.{◌≡◌, ◌+◌, List, Some, None, length, sym, ap, subst, ◌∙◌}
use Rattle.std.specs.Prelude.{ℕ}
use Rattle.group_model.specs.Brokers.{Task, task_of}
use Rattle.eval_broker.specs.Inner.Lists.{HaveCapacity}
use Rattle.eval_broker.proofs.Relisting.{none_goes}
use Rattle.eval_broker.proofs.Stored.{as_many, new_capacity}
use Rattle.eval_broker.proofs.broker.Broker.changed.Goals as goal

pub put-requires-clause-capacity : goal.put-requires-clause-capacity
put-requires-clause-capacity c =
    let ts = c.self.inside.tasks.tasks.rows in
    let old = c.in-Some.old.now in
    let held : task_of c.carried-task.result.id ts ≡ Some old = ap (λ (t : Task). task_of t.id ts) c.carried-task.ensures ∙ sym c.in-Some.ensures in
    subst (λ (n : ℕ). HaveCapacity n c.self.inside.tasks.lists) (sym (as_many c.carried-task.result ts old c.self.invariant.rising held)) c.self.invariant.capacity

pub bring_in-requires-clause-listed : goal.bring_in-requires-clause-listed
bring_in-requires-clause-listed c =
    let made = c.in_ok-reserve_rows-in-None.ensures in
    let none : task_of c.of-task.result.id c.reserve_rows.new.self.tasks.rows ≡ None = (λ i. task_of (c.of-task.ensures i).id (made.rows i)) ∙ sym c.in-None.ensures in
    none_goes c.of-task.result.id c.reserve_rows.new.self.tasks.rows c.reserve_rows.new.self.lists none made.kept.listed

pub bring_in-requires-clause-capacity : goal.bring_in-requires-clause-capacity
bring_in-requires-clause-capacity c =
    let made = c.in_ok-reserve_rows-in-None.ensures in
    new_capacity c.of-task.result c.reserve_rows.new.self.tasks.rows c.reserve_rows.new.self.lists made.kept.rising
    (subst (λ (ts : List Task). HaveCapacity (length ts + 1) c.reserve_rows.new.self.lists) (sym made.rows) made.lists)
