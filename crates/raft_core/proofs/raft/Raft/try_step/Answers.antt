use Rattle.std.proofs.Common.{sym, ap, ◌∙◌}
use Rattle.raft_model.specs.Steps.{Crash, Restart}
use Rattle.raft_core.proofs.Sends.{sends-none}
use Rattle.raft_core.proofs.Stepping.{steps_by, crash_taken, restart_taken}
use Rattle.raft_core.proofs.raft.Raft.try_step.Goals as goal

pub returns-in_ok-revive-in-Restart-clause-taken : goal.returns-in_ok-revive-in-Restart-clause-taken
returns-in_ok-revive-in-Restart-clause-taken g c =
    let m = g.M.Machine.spec in
    let old = c.args.self.now in
    let is = restart_taken m old.size old.me old.server (sym (c.is_up-is_up.ensures.shown) ∙ c.if-is_up.false) in
    let made = c.in_ok-revive-in-Restart.ensures.ok in
    rw c.in-Restart.is (steps_by m old c.revive.new.self c.args.outbox.now c.args.outbox.now Restart _ is
    (record { server = ap (λ x. x.server) made; base = ap (λ x. x.base) made; me = ap (λ x. x.me) made; size = ap (λ x. x.size) made; sent = sends-none m c.args.outbox.now }))

pub returns-else-not-is_up-clause-taken : goal.returns-else-not-is_up-clause-taken
returns-else-not-is_up-clause-taken g c =
    let m = g.M.Machine.spec in
    let old = c.args.self.now in
    let is = crash_taken m old.size old.me old.server (sym (c.is_up-is_up.ensures.shown) ∙ c.if-not-is_up.false) in
    let made = c.go_down.ensures.view in
    rw c.in-Crash.is (steps_by m old c.go_down.new.self c.args.outbox.now c.args.outbox.now Crash _ is
    (record { server = ap (λ x. x.server) made; base = ap (λ x. x.base) made; me = ap (λ x. x.me) made; size = ap (λ x. x.size) made; sent = sends-none m c.args.outbox.now }))
