use Rattle.std.proofs.Common.{ap, subst, sym, ◌∙◌, Some}
use Rattle.group_model.specs.Queues.{first_plan}
use Rattle.plan_queue.specs.First.{IsFirstAt}
use Rattle.plan_queue.proofs.Picking.{picked_at}
use Rattle.plan_queue.proofs.queue.PlanQueue.pop.Goals as goal

pub returns-clause-some : goal.returns-clause-some
returns-clause-some c =
    let plans = c.self.inside.plans.items in
    let here = subst (λ ps. IsFirstAt ps c.first_position-at.result) c.deref.ensures.value c.first_position-at.ensures in
    sym (ap first_plan c.self.view_is)
    ∙ picked_at plans c.first_position-at.result c.remove.result here
    ∙ (λ i. Some (record { one = sym c.remove.ensures.value i; others = sym c.remove.ensures.items i }))
