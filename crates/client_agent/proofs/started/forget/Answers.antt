use Rattle.std.proofs.Common.{◌≡◌, ◌≤◌, ◌++◌, [], ◌∷◌, List, length, take, sym, ap, subst, ◌∙◌, arith}
use Rattle.std.proofs.lemmas.List.{take-append-le, length_push}
use Rattle.rows.specs.declared.allocation.AllocId.{AllocId}
use Rattle.client_agent.specs.Capacity.{AreDistinct}
use Rattle.client_agent.specs.Inner.Ids.{AreSet}
use Rattle.client_agent.proofs.Distinct.{all_but_last}
use Rattle.client_agent.proofs.Indexes.{set_less}
use Rattle.client_agent.proofs.started.forget.Goals as goal

pub loop-ids-preserved : goal.loop-ids-preserved
loop-ids-preserved c =
    let left = c.pop.new.self.items in
    let id = c.in-Some.id in
    let items : c.loop-ids.ids.items ≡ left ++ id ∷ [] = c.in-Some.ensures.items in
    let count : c.args.count ≤ length left = omega (arith, ap length items, length_push left id) in
    let distinct = subst (λ (ids : List AllocId). AreDistinct ids) items c.loop-ids.invariant.distinct in
    let set = subst (λ (ids : List AllocId). AreSet ids c.loop-ids.set) items c.loop-ids.invariant.set in
    record {
      taken = sym (take-append-le c.args.count left (id ∷ []) count) ∙ ap (take c.args.count) (sym items) ∙ c.loop-ids.invariant.taken;
      distinct = all_but_last left id distinct;
      set = set_less left id c.loop-ids.set c.cut.new.self distinct set c.cut.ensures;
    }
