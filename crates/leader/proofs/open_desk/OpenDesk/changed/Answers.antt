use Rattle.std.proofs.Common.{subst}
use Rattle.std.specs.Prelude.{OnOk}
use Rattle.leader.specs.OpenDesks.{OpenDesk}
use Rattle.leader.specs.Staying.{Follows}
use Rattle.leader.proofs.Followed.{followed_if_ok}
use Rattle.leader.proofs.open_desk.OpenDesk.changed.Goals as goal

pub returns-clause-follows : goal.returns-clause-follows
returns-clause-follows c =
    let r = c.follow.result in
    let e = c.follow.ensures in
    let i = c.self.inside in
    let old : OpenDesk = record { desk = record { broker = i.broker; plans = i.plans; heartbeat_counts = i.expiry }; blocked = i.blocked; term = i.term } in
    let new : OpenDesk = record { desk = record { broker = c.follow.new.broker; plans = i.plans; heartbeat_counts = c.follow.new.expiry }; blocked = c.follow.new.blocked; term = i.term } in
    subst (λ (o : OpenDesk). OnOk r (Follows c.args.command.now c.args.state.now o new)) c.self.view_is
    (followed_if_ok r c.args.command.now c.args.state.now old c.follow.new.broker c.follow.new.blocked c.follow.new.expiry e.broker e.expiry e.again)
