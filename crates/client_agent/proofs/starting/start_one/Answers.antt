use Rattle.std.proofs.Common.{◌≡◌, true, false, rules, sym, ◌∙◌}
use Rattle.client_agent.specs.Inner.Runs.{runs_of}
use Rattle.client_agent.proofs.Fits.{beside_is, not_again, not_past, starts_now}
use Rattle.client_agent.proofs.starting.start_one.Goals as goal
use Rattle.client_agent.proofs.starting.start_one.Goals.{then-has-via-then-has, then-has-via-else-has+then-not-has_room}

pub returns-then-has-clause-ok : goal.returns-then-has-clause-ok
returns-then-has-clause-ok c =
    let whole = c.args.whole.now in
    let running = c.args.running.now.items in
    let fit = beside_is c.args.whole.now running c.args.left.now c.args.row.now.size c.requires in
    let old = runs_of c.args.started.now running in
    elim c.then-has.branch [
      | then-has-via-then-has w ↦
          let has : c.has.result ≡ true = search rules in
          not_again whole c.args.row.now old (sym c.has.ensures ∙ has)
      | then-has-via-else-has+then-not-has_room w ↦
          let none : w.has_room.result ≡ false = search rules in
          not_past whole c.args.row.now old (sym fit ∙ sym w.has_room.ensures ∙ none)
    ]

pub returns-clause-ok : goal.returns-clause-ok
returns-clause-ok c =
    let running = c.args.running.now.items in
    let fit = beside_is c.args.whole.now running c.args.left.now c.args.row.now.size c.requires in
    let has : c.has.result ≡ false = search rules in
    let some : c.has_room.result ≡ true = search rules in
    rw (c.in_ok-push-2.ensures.ok, c.in_ok-push.ensures.items)
    (starts_now c.args.whole.now c.args.row.now (runs_of c.args.started.now running) (sym c.has.ensures ∙ has) (sym fit ∙ sym c.has_room.ensures ∙ some))
