use Rattle.std.proofs.Common.{◌≡◌, ◌∙◌, ◌+◌, ◌++◌, [], ap, length, map, rules, sym}
use Rattle.std.specs.List.{repeat}
use Rattle.std.proofs.lemmas.List.{append-nil}
use Rattle.sim_expand.specs.ShortSteps.{short_step}
use Rattle.sim_expand.proofs.Shorts.{none_there, repeat_more, repeat_none}
use Rattle.sim_expand.proofs.short.put_times.Goals as goal

pub returns-then-times-eq0 : goal.returns-then-times-eq0
returns-then-times-eq0 c =
    let none : c.args.times ≡ 0 = search rules in
    rw none (sym (append-nil (map short_step c.args.steps.now.items)))

pub returns-then-is_empty : goal.returns-then-is_empty
returns-then-is_empty c =
    let zero : length c.args.own.items ≡ 0 = search rules in
    let none : c.args.own.items ≡ [] = none_there c.args.own.items zero in
    rw (none, repeat_none) (sym (append-nil (map short_step c.args.steps.now.items)))

pub loop-preserved : goal.loop-preserved
loop-preserved c =
    let own = map short_step c.args.own.items in
    let old = map short_step c.args.steps.now.items in
    rw c.deref.ensures.value at c.in_ok-put_copies.ensures ∙ ap (λ s. s ++ own) c.loop.invariant ∙ repeat_more c.loop.counter old own

pub returns : goal.returns
returns c =
    let own = map short_step c.args.own.items in
    let old = map short_step c.args.steps.now.items in
    let all : c.loop.counter + 1 ≡ c.args.times = search rules in
    c.in_ok-put_all.ensures ∙ ap (λ s. s ++ own) c.loop.invariant ∙ repeat_more c.loop.counter old own ∙ ap (λ n. old ++ repeat n own) all
