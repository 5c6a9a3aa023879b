use Rattle.std.proofs.Common.{subst}
use Rattle.group_inputs.specs.Handings.{handing}
use Rattle.server_node.specs.Working.{AsksOwn}
use Rattle.server_node.proofs.HandedIn.{owns_none, owns_one}
use Rattle.server_node.proofs.passing.do_step.Goals as goal

pub returns-in_default-clause-all : goal.returns-in_default-clause-all
returns-in_default-clause-all c = owns_none c.args.server.now c.args.frames.now.items

pub returns-in-Nothing-clause-all : goal.returns-in-Nothing-clause-all
returns-in-Nothing-clause-all c = owns_none c.args.server.now c.args.frames.now.items

pub returns-in-Dropped-clause-all : goal.returns-in-Dropped-clause-all
returns-in-Dropped-clause-all c = owns_none c.args.server.now c.args.frames.now.items

pub returns-in_ok-hand-in-Asks-clause-all : goal.returns-in_ok-hand-in-Asks-clause-all
returns-in_ok-hand-in-Asks-clause-all c =
    owns_one c.args.server.now (handing c.in-Asks.input) c.hand.new.server c.work.new.workers c.hand.new.workers c.args.frames.now.items c.hand.new.frames.items c.in_ok-hand-in-Asks.field-0 (subst AsksOwn c.in-Asks.is c.in_ok-work.ensures) c.in_ok-hand-in-Asks.ensures.hands
