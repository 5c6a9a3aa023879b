use Rattle.server_node.proofs.HandedIn.{owns_both, owns_none}
use Rattle.server_node.proofs.passing.do_work.Goals as goal

pub steps-init : goal.steps-init
steps-init c = record { all = owns_none c.args.server.now c.args.frames.now.items; kept = λ first led. led }

pub steps-preserved : goal.steps-preserved
steps-preserved c = record {
  all = owns_both c.args.server.now c.args.frames.now.items c.steps.server c.steps.frames.items c.do_step.new.server c.do_step.new.frames.items c.steps.invariant.all c.in_ok-do_step.ensures.all;
  kept = λ first led. c.in_ok-do_step.ensures.change first (c.steps.invariant.kept first led);
}

pub returns-then-not-branch-clause-all : goal.returns-then-not-branch-clause-all
returns-then-not-branch-clause-all c =
    owns_both c.args.server.now c.args.frames.now.items c.steps.server c.steps.frames.items c.do_step.new.server c.do_step.new.frames.items c.steps.invariant.all c.in_ok-do_step.ensures.all
