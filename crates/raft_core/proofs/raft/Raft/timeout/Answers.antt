use Rattle.std.proofs.Common.{rules, ◌+◌, ◌^◌, ◌<◌, length, refl, sym, ◌∙◌}
use Rattle.raft_model.specs.Steps.{Timeout}
use Rattle.raft_core.proofs.Sends.{sends-none}
use Rattle.raft_core.proofs.Stepping.{steps_by, leader_waits, other_stands}
use Rattle.raft_core.proofs.raft.Raft.timeout.Goals as goal

pub returns-then-is_leader-clause-taken : goal.returns-then-is_leader-clause-taken
returns-then-is_leader-clause-taken g c =
    let m = g.M.Machine.spec in
    let old = c.args.self.now in
    let waits = leader_waits m old.size old.me old.server c.requires (sym c.is_leader.ensures ∙ c.if-is_leader.true) in
    steps_by m old old c.args.outbox.now c.args.outbox.now Timeout _ waits (record { server = refl; base = refl; me = refl; size = refl; sent = sends-none m c.args.outbox.now })

pub returns-clause-taken : goal.returns-clause-taken
returns-clause-taken g c =
    let m = g.M.Machine.spec in
    let old = c.args.self.now in
    let term : old.server.term + 1 < 2 ^ 40 = search rules in
    let index_left : length old.server.log + 1 < 2 ^ 40 = search rules in
    let stands = other_stands m old.size old.me old.server c.requires (sym c.is_leader.ensures ∙ c.if-is_leader.false) term index_left in
    steps_by m old c.start_election.new.self c.args.outbox.now c.start_election.new.outbox Timeout _ stands c.in_ok-start_election.ensures.taken
