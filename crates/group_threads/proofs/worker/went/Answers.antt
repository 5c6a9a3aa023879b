use Rattle.std.proofs.Common.{◌≡◌, sym, subst, rules, IfErr}
use Rattle.std.specs.Prelude.{Err}
use Rattle.cells.specs.Actors.{group_size}
use Rattle.group_threads.specs.WorkerTurns.{WhyNotAsked}
use Rattle.group_threads.proofs.Started.{asked_refused, took_asked}
use Rattle.group_threads.proofs.worker.went.Goals as goal

pub returns-in_err-turned-in-Asks-clause-refused : goal.returns-in_err-turned-in-Asks-clause-refused
returns-in_err-turned-in-Asks-clause-refused g c =
    let n = group_size g.B.BookId.actors in
    let all = c.args.cells.now.actors in
    let same : c.from_residual-in_err-turned-in-Asks.result ≡ Err c.in_err-turned-in-Asks.field-0.0 = search rules in
    let why = asked_refused n c.args.server c.args.taken all c.in_ok-stepped.field-0 c.in-Asks.input _ c.in-Asks.is c.in_ok-stepped.ensures.handled c.in_err-turned-in-Asks.ensures.refused in
    subst (λ q. IfErr q (WhyNotAsked n all c.args.server c.args.taken)) (sym same) why

pub returns-in_ok-turned-in-Asks-clause-turn : goal.returns-in_ok-turned-in-Asks-clause-turn
returns-in_ok-turned-in-Asks-clause-turn g c =
    took_asked (group_size g.B.BookId.actors) c.args.server c.args.taken c.in_ok-stepped.field-0 c.in-Asks.input _ _ _ c.in-Asks.is c.in_ok-stepped.ensures.handled c.in_ok-turned-in-Asks.ensures.took
