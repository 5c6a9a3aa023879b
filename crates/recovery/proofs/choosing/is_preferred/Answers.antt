use Rattle.std.proofs.Common.{inl}
use Rattle.recovery.proofs.Picks.{preferred_level}
use Rattle.recovery.proofs.choosing.is_preferred.Goals as goal

pub returns-then-is_older : goal.returns-then-is_older
returns-then-is_older g c = λ past w r. inl (c.if-is_older.ensures past w r)

pub returns-then-is_older-2 : goal.returns-then-is_older-2
returns-then-is_older-2 g c = λ past w r. (c.if-is_older.ensures past w r, inl (c.if-is_older-2.ensures past w r))

pub returns : goal.returns
returns g c = preferred_level g.D.Of.Machine.spec g.D.Driven.drive c.args.world.now c.args.best c.args.next c.leads_all.result c.if-is_older.ensures c.if-is_older-2.ensures c.leads_all.ensures
