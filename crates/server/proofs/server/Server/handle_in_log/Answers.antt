use Rattle.std.proofs.Common.{refl}
use Rattle.server.proofs.LogSteps.{closed_led, hear_takes, hear_desk}
use Rattle.server.proofs.server.Server.handle_in_log.Goals as goal

pub invariant_of-self : goal.invariant_of-self
invariant_of-self c = closed_led c.receive_message-taken.new.self c.receive_message-taken.new.watch c.close_unless_leading.new.desk c.close_unless_leading.ensures

pub returns-clause-taken : goal.returns-clause-taken
returns-clause-taken c =
    let i = c.self.inside in
    let got = c.receive_message-taken.ensures in
    rw (← c.self.view_is) (hear_takes (record { raft = i.raft; desk = i.desk }) c.receive_message-taken.new.self c.receive_message-taken.new.watch c.close_unless_leading.new.desk c.close_unless_leading.ensures c.args.message c.args.outbox.now (record { frames = c.receive_message-taken.new.outbox; work = c.args.outbox.now.work }) c.receive_message-taken.result got.taken got.seen refl)

pub returns-clause-desk : goal.returns-clause-desk
returns-clause-desk c =
    let i = c.self.inside in
    let got = c.receive_message-taken.ensures in
    rw (← c.self.view_is) (hear_desk (record { raft = i.raft; desk = i.desk }) c.receive_message-taken.new.self c.receive_message-taken.new.watch c.close_unless_leading.new.desk c.close_unless_leading.ensures c.receive_message-taken.result c.self.invariant got.stays got.unseen)
