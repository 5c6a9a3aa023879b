use Rattle.std.proofs.Common.{refl}
use Rattle.server.proofs.LogSteps.{closed_led, own_takes, own_desk}
use Rattle.server.proofs.server.Server.step_log.Goals as goal

pub invariant_of-self : goal.invariant_of-self
invariant_of-self c = closed_led c.step_watched-stepped.new.self c.step_watched-stepped.new.watch c.close_unless_leading.new.desk c.close_unless_leading.ensures

pub returns-clause-taken : goal.returns-clause-taken
returns-clause-taken c =
    let i = c.self.inside in
    let got = c.step_watched-stepped.ensures in
    rw (← c.self.view_is) (own_takes (record { raft = i.raft; desk = i.desk }) c.step_watched-stepped.new.self c.step_watched-stepped.new.watch c.close_unless_leading.new.desk c.close_unless_leading.ensures c.args.input c.requires c.args.outbox.now (record { frames = c.step_watched-stepped.new.outbox; work = c.args.outbox.now.work }) c.step_watched-stepped.result got.taken got.seen refl)

pub returns-clause-desk : goal.returns-clause-desk
returns-clause-desk c =
    let i = c.self.inside in
    let got = c.step_watched-stepped.ensures in
    rw (← c.self.view_is) (own_desk (record { raft = i.raft; desk = i.desk }) c.step_watched-stepped.new.self c.step_watched-stepped.new.watch c.close_unless_leading.new.desk c.close_unless_leading.ensures c.args.input c.requires c.step_watched-stepped.result c.self.invariant got.stays got.unseen)
