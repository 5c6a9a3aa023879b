use Rattle.recovery.proofs.Looks.{not_missing}
use Rattle.recovery.proofs.Picks.{older_read}
use Rattle.recovery.proofs.choosing.is_older.Goals as goal

pub returns : goal.returns
returns g c = older_read g.D.Of.Machine.spec g.D.Driven.drive c.args.world.now c.args.one c.args.other c.in-Some.first.now c.in-Some-log_of.second.now c.in-Some.ensures.some c.in-Some-log_of.ensures.some c.is_log_older.result c.is_log_older.ensures

pub unreachable-requires : goal.unreachable-requires
unreachable-requires g c = let r = c.has_run.ensures.run in not_missing g.D.Of.Machine.spec g.D.Driven.drive c.has_run.ensures.law c.args.world.now c.args.other c.requires.1 r.past r.moment r.runs c.in-None-log_of.ensures.none

pub unreachable-requires-in-None : goal.unreachable-requires-in-None
unreachable-requires-in-None g c = let r = c.has_run.ensures.run in not_missing g.D.Of.Machine.spec g.D.Driven.drive c.has_run.ensures.law c.args.world.now c.args.one c.requires.0 r.past r.moment r.runs c.in-None.ensures.none
