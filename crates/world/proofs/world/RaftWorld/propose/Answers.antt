use Rattle.std.proofs.Common.{sym}
use Rattle.world.proofs.Standings.{taken_there, ticket_now, stood_now}
use Rattle.world.proofs.world.RaftWorld.propose.Goals as goal

pub unreachable-requires : goal.unreachable-requires
unreachable-requires g c =
    let happened = rw c.in-Ok-Taken.field-0-is at c.in-Ok-Taken.ensures.ok in
    taken_there g.M.Machine.spec c.args.server c.args.command.value c.args.self.now c.step.new.self happened c.step.ensures.one_list (sym (rw c.in_default.is at c.raft.ensures))

pub returns-in-Some-clause-ticket : goal.returns-in-Some-clause-ticket
returns-in-Some-clause-ticket g c =
    let happened = rw c.in-Ok-Taken.field-0-is at c.in-Ok-Taken.ensures.ok in
    ticket_now g.M.Machine.spec c.args.server c.args.command.value c.args.self.now c.step.new.self happened c.in-Some.raft.now (sym c.in-Some.ensures) c.last.result c.term.result c.last.ensures.value c.term.ensures.value c.step.ensures.one_list

pub returns-in-Some-clause-stood : goal.returns-in-Some-clause-stood
returns-in-Some-clause-stood g c =
    let happened = rw c.in-Ok-Taken.field-0-is at c.in-Ok-Taken.ensures.ok in
    stood_now g.M.Machine.spec c.args.server c.args.command.value c.args.self.now c.step.new.self happened c.in-Some.raft.now (sym c.in-Some.ensures) c.last.result c.term.result c.last.ensures.value c.term.ensures.value c.step.ensures.one_list
