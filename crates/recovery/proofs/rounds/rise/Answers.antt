use Rattle.std.proofs.Common.{◌≡◌, true}
use Rattle.recovery.specs.Runs.{is_up_in}
use Rattle.recovery.specs.Inner.Spreads.{Chosen}
use Rattle.recovery.proofs.Goings.{log_known_more}
use Rattle.recovery.proofs.Driving.{risen_already, hear_known}
use Rattle.recovery.proofs.rounds.rise.Goals as goal

pub highest-ahead-requires : goal.highest-ahead-requires
highest-ahead-requires g c = log_known_more g.D.Of.Machine.spec g.D.Driven.drive c.has_run.ensures.law c.args.world.now (λ w. Chosen (g.D.Driven.drive.size c.args.world.now) c.args.who w) (λ w. is_up_in w c.args.who ≡ true) c.requires (λ w r p. p.up)

pub is_behind-requires : goal.is_behind-requires
is_behind-requires g c =
    let k = c.requires in
    let a = k.ever k.past k.moment k.runs in
    let b = c.highest-ahead.ensures k.past k.moment k.runs in
    (a.less, b.less)

pub observe_newer_term-requires : goal.observe_newer_term-requires
observe_newer_term-requires g c = hear_known g.D.Of.Machine.spec g.D.Driven.drive c.has_run.ensures.law c.args.world.now c.args.who c.highest-ahead.result c.requires c.highest-ahead.ensures c.if-is_behind.ensures

pub returns-else-is_behind-clause-ok : goal.returns-else-is_behind-clause-ok
returns-else-is_behind-clause-ok g c = risen_already g.D.Of.Machine.spec g.D.Driven.drive c.has_run.ensures.law c.args.world.now c.args.who c.highest-ahead.result c.requires c.highest-ahead.ensures c.if-is_behind.ensures
