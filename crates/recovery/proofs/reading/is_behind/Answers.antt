use Rattle.recovery.proofs.Looks.{behind_told}
use Rattle.recovery.proofs.reading.is_behind.Goals as goal

pub returns : goal.returns
returns g c = behind_told g.D.Of.Machine.spec g.D.Driven.drive c.has_run.ensures.law c.args.world.now c.args.server c.args.other c.term_of.result c.term_of-2.result c.term_of.ensures c.term_of-2.ensures c.requires.0 c.requires.1
