use Rattle.std.proofs.Common.{◌≡◌, ◌++◌, [], ◌∷◌, List, sym, ap, subst, ◌∙◌}
use Rattle.std.specs.List.{list_any}
use Rattle.rows.specs.declared.allocation.AllocId.{AllocId}
use Rattle.fsm_model.specs.Words.{same_alloc}
use Rattle.client_agent.specs.Capacity.{AreDistinct}
use Rattle.client_agent.specs.Inner.Ids.{AreSet}
use Rattle.client_agent.proofs.Distinct.{distinct_push}
use Rattle.client_agent.proofs.Indexes.{set_more}
use Rattle.client_agent.proofs.started.Started.push.Goals as goal

pub invariant_of-self-2 : goal.invariant_of-self-2
invariant_of-self-2 c =
    let id = c.args.id.now in
    let ids = c.self.inside.ids.items in
    let items : ids ++ id ∷ [] ≡ c.push_reserved.new.self.items = sym (c.push_reserved.ensures.items ∙ ap (λ (front : List AllocId). front ++ id ∷ []) c.in_ok-reserve.ensures.items) in
    let never = ap (list_any (same_alloc id)) c.self.view_is ∙ c.requires in
    record {
      distinct = subst (λ (all : List AllocId). AreDistinct all) items (distinct_push ids id c.self.invariant.distinct never);
      set = subst (λ (all : List AllocId). AreSet all c.add.new.self) items (set_more ids id c.self.inside.set c.add.new.self c.self.invariant.set c.in_ok-add.ensures.ok);
    }
