use Rattle.std.proofs.Common.{◌≡◌, ◌≤◌, arith, rules, subst}
use Rattle.runner.specs.Inner.Runs.{ShowsSome}
use Rattle.runner.proofs.Runs.{shows_more, shows_none}
use Rattle.runner.proofs.sweeping.show_each.Goals as goal

pub loop-init : goal.loop-init
loop-init g c =
    record {
      many = omega arith;
      most = omega arith;
      shown = shows_none c.args.scenario.now c.args.settings c.args.words.keys.first _ _ c.csv_head.result.now c.csv_head.ensures c.in_ok-show.ensures.text;
    }

pub returns-then-done-task-clause-told : goal.returns-then-done-task-clause-told
returns-then-done-task-clause-told g c =
    let keys = c.args.words.keys in
    subst (λ n. ShowsSome c.args.scenario.now c.args.settings keys.first n (g.W.Write.contents c.args.out.now) (g.W.Write.contents c.loop.out)) c.if-done-task.true c.loop.invariant.shown

pub many_behind-many-requires : goal.many_behind-many-requires
many_behind-many-requires g c =
    let most : c.loop.done ≤ c.args.words.keys.count = c.loop.invariant.most in
    search rules

pub loop-preserved : goal.loop-preserved
loop-preserved g c =
    let keys = c.args.words.keys in
    record {
      many = omega (arith, c.loop.invariant.many, c.many_behind-many.ensures.least);
      most = c.many_behind-many.ensures.most;
      shown = shows_more c.args.scenario.now c.args.settings keys.first c.loop.done c.many_behind-many.result _ _ _ c.loop.invariant.shown c.in_ok-show_some.ensures.told;
    }

pub returns-clause-told : goal.returns-clause-told
returns-clause-told g c =
    let keys = c.args.words.keys in
    let many : c.loop.counter ≤ c.loop.done = c.loop.invariant.many in
    let most : c.loop.done ≤ keys.count = c.loop.invariant.most in
    let all : c.loop.done ≡ keys.count = search rules in
    subst (λ n. ShowsSome c.args.scenario.now c.args.settings keys.first n (g.W.Write.contents c.args.out.now) (g.W.Write.contents c.loop.out)) all c.loop.invariant.shown
