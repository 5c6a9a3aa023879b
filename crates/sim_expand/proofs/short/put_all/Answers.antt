use Rattle.std.proofs.Common.{◌≡◌, ◌∙◌, ◌++◌, ◌∷◌, [], ap, map, rules, sym}
use Rattle.std.specs.Vec.Iter.{into_iter_items}
use Rattle.std.proofs.lemmas.List.{append_assoc, map-append}
use Rattle.sim_expand.specs.ShortSteps.{short_step}
use Rattle.sim_expand.proofs.short.put_all.Goals as goal

pub loop-step-preserved : goal.loop-step-preserved
loop-step-preserved c =
    let old = map short_step c.args.steps.now.items in
    let step = c.in-Some.step in
    let front = c.loop-step.yielded in
    let rest = into_iter_items c.next.new.self in
    let pushed : c.push.new.self.items ≡ c.loop-step.steps.items ++ step ∷ [] = search rules in
    let all : front ++ step ∷ rest ≡ c.args.own.items = search rules in
    let put = map-append short_step c.loop-step.steps.items (step ∷ []) ∙ ap (λ s. s ++ short_step step ∷ []) c.loop-step.invariant.1
    ∙ append_assoc old (map short_step front) (short_step step ∷ []) ∙ ap (λ s. old ++ s) (sym (map-append short_step front (step ∷ []))) in
    (append_assoc front (step ∷ []) rest ∙ all, rw pushed put)
