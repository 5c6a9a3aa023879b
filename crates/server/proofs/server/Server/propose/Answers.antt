use Rattle.std.proofs.Common.{rules, ◌≡◌, Ok, Err}
use Rattle.server.proofs.Keeping.{last_by_ticket, longer_keeps, same_keeps}
use Rattle.server.proofs.Proposing.{propose_takes, propose_declines}
use Rattle.server.proofs.server.Server.propose.Goals as goal

pub returns-clause-taken : goal.returns-clause-taken
returns-clause-taken c =
    let i = c.self.inside in
    let up = rw (← c.self.view_is) at c.requires in
    let applied = c.applied-applied.ensures in
    rw (← c.self.view_is) (propose_takes (record { raft = i.raft; desk = i.desk }) c.propose.new.self c.args.command up c.applied-applied.result applied.value applied.held (Ok tt) c.in_ok-propose.ensures.taken)

pub returns-clause-keeps : goal.returns-clause-keeps
returns-clause-keeps c =
    rw (← c.self.view_is) (longer_keeps c.self.inside.raft c.propose.new.self c.args.command c.in_ok-propose.ensures.shown.0 c.in_ok-propose.ensures.shown.1)

pub returns-clause-stands : goal.returns-clause-stands
returns-clause-stands c = λ s is. last_by_ticket s.raft c.args.command _ _ (c.in_ok-propose.ensures.ticket s.raft is.raft)

pub returns-in_err-propose-clause-keeps : goal.returns-in_err-propose-clause-keeps
returns-in_err-propose-clause-keeps c =
    rw (← c.self.view_is) (same_keeps c.self.inside.raft c.propose.new.self c.in_err-propose.ensures.unchanged)

pub returns-in_err-propose-clause-refused : goal.returns-in_err-propose-clause-refused
returns-in_err-propose-clause-refused c =
    let i = c.self.inside in
    let up = rw (← c.self.view_is) at c.requires in
    let is : c.from_residual.result ≡ Err c.in_err-propose.field-0.0 = search rules in
    rw (is, ← c.self.view_is) (propose_declines (record { raft = i.raft; desk = i.desk }) c.propose.new.self c.args.command up (Err c.in_err-propose.field-0.0) c.in_err-propose.ensures.refused c.in_err-propose.ensures.unhidden)
