use Rattle.std.proofs.Common.{◌<◌, ◌^◌, length, rules, subst, sym}
use Rattle.std.specs.List.{AllByRecursion}
use Rattle.sim_recovery.specs.Inner.Steps.{IsStep}
use Rattle.sim_recovery.proofs.WaySteps.{lines_are, steps_behind}
use Rattle.sim_recovery.proofs.recovering.lines_behind.Goals as goal

pub lines_of-requires : goal.lines_of-requires
lines_of-requires c =
    let view = c.args.world.now in
    let taken = c.requires.0 in
    let came = c.requires.1 in
    let few : length view.outbox.frames < 2 ^ 64 = search rules in
    subst (AllByRecursion IsStep) (sym (c.taken_behind.ensures taken came))
    (steps_behind (length view.outbox.frames) view.trace came.old taken few came.trace c.trace-all.ensures.own came.steps)

pub returns : goal.returns
returns c taken came =
    lines_are c.lines_of.result c.taken_behind.result.now taken (c.taken_behind.ensures taken came) c.lines_of.ensures.have c.lines_of.ensures.lines
