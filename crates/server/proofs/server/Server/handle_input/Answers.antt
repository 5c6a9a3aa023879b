use Rattle.std.proofs.Common.{ap, sym, subst}
use Rattle.group_inputs.specs.Handings.{handing}
use Rattle.server.specs.Inner.LogSteps.{IsTaken}
use Rattle.group_model.specs.Inputs.{Lapse, Expire, DrainTurn, FreeTurn, Reap}
use Rattle.server.proofs.Handings.{silent_turn, timeout_taken}
use Rattle.server.proofs.server.Server.handle_input.Goals as goal

pub returns-in-Timeout : goal.returns-in-Timeout
returns-in-Timeout c =
    let old = c.args.self.now in
    let got = c.step_log.ensures in
    subst (λ h. IsTaken old h c.step_log.result c.step_log.new.self c.args.outbox.now c.step_log.new.outbox) (sym (ap handing c.in-Timeout.is))
    (timeout_taken old c.step_log.new.self c.args.outbox.now c.step_log.new.outbox c.requires c.step_log.result got.same got.taken got.keeps got.refused got.unhidden got.stays got.desk got.unsent)

pub returns-in-Lapse : goal.returns-in-Lapse
returns-in-Lapse c =
    silent_turn c.args.self.now c.lapse.new.self (handing c.args.input) (Lapse c.in-Lapse.eval) (ap handing c.in-Lapse.is) c.requires c.args.outbox.now c.lapse.ensures.same (λ index. c.lapse.ensures.keeps) tt (λ x. x) c.lapse.result c.lapse.ensures.taken c.lapse.ensures.stopped

pub returns-in-Expire : goal.returns-in-Expire
returns-in-Expire c =
    silent_turn c.args.self.now c.expire.new.self (handing c.args.input) (Expire c.in-Expire.node c.in-Expire.beats) (ap handing c.in-Expire.is) c.requires c.args.outbox.now c.expire.ensures.same (λ index. c.expire.ensures.keeps) tt (λ x. x) c.expire.result c.expire.ensures.taken c.expire.ensures.stopped

pub returns-in-DrainTurn : goal.returns-in-DrainTurn
returns-in-DrainTurn c =
    silent_turn c.args.self.now c.drain_turn.new.self (handing c.args.input) (DrainTurn c.in-DrainTurn.node) (ap handing c.in-DrainTurn.is) c.requires c.args.outbox.now c.drain_turn.ensures.same (λ index. c.drain_turn.ensures.keeps) tt (λ x. x) c.drain_turn.result c.drain_turn.ensures.taken c.drain_turn.ensures.stopped

pub returns-in-FreeTurn : goal.returns-in-FreeTurn
returns-in-FreeTurn c =
    silent_turn c.args.self.now c.free_turn.new.self (handing c.args.input) FreeTurn (ap handing c.in-FreeTurn.is) c.requires c.args.outbox.now c.free_turn.ensures.same (λ index. c.free_turn.ensures.keeps) tt (λ x. x) c.free_turn.result c.free_turn.ensures.taken c.free_turn.ensures.stopped

pub returns-in-Reap : goal.returns-in-Reap
returns-in-Reap c =
    silent_turn c.args.self.now c.reap.new.self (handing c.args.input) Reap (ap handing c.in-Reap.is) c.requires c.args.outbox.now c.reap.ensures.same (λ index. c.reap.ensures.keeps) tt (λ x. x) c.reap.result c.reap.ensures.taken c.reap.ensures.stopped
