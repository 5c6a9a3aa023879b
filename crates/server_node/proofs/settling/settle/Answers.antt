use Rattle.std.proofs.Common.{◌++◌, ◌∷◌, [], subst, sym, take, take_all}
use Rattle.server_node.specs.Answers.{Settles}
use Rattle.server_node.proofs.HandedIn.{both_put, none_put}
use Rattle.server_node.proofs.Tickets.{settles_both, settles_none, tickets_longer}
use Rattle.server_node.proofs.settling.settle.Goals as goal

pub loop-ticket-init : goal.loop-ticket-init
loop-ticket-init c = ([], subst (λ l. Settles c.args.server.now [] [] l) (sym c.new-unsettled.ensures.items) (settles_none c.args.server.now), none_put c.args.answers.now.items)

pub loop-ticket-preserved : goal.loop-ticket-preserved
loop-ticket-preserved c =
    let server = c.args.server.now in
    let asked = c.args.asked.now in
    let i = c.loop-ticket.ticket-index in
    let a = c.ticket-item.result in
    let so_far = c.loop-ticket.invariant in
    let one = c.in_ok-settle_one.ensures in
    let both = settles_both server (take i asked) (a ∷ []) so_far.0 one.0 c.loop-ticket.unsettled.items one.1 so_far.1 one.2 in (
      so_far.0 ++ one.0,
      subst (λ l. Settles server l (so_far.0 ++ one.0) c.settle_one.new.unsettled.items) (tickets_longer asked i a c.loop-ticket-test.true c.ticket-item.is)
          (subst (λ l. Settles server (take i asked ++ a ∷ []) (so_far.0 ++ one.0) l) (sym one.4) both),
      both_put c.args.answers.now.items c.loop-ticket.answers.items c.settle_one.new.answers.items so_far.0 one.0 so_far.2 one.3,
    )

pub returns : goal.returns
returns c =
    let so_far = c.loop-ticket.invariant in (
      so_far.0,
      subst (λ asked. Settles c.args.server.now asked so_far.0 c.loop-ticket.unsettled.items) (take_all c.loop-ticket.ticket-index c.args.asked.now c.loop-ticket-test.false) so_far.1,
      so_far.2,
    )
