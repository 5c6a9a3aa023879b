use Rattle.std.proofs.Common.{◌∙◌}
use Rattle.server.proofs.server.Server.snapshot.Goals as goal

pub returns-clause-state : goal.returns-clause-state
returns-clause-state c = λ s is.
    let raft = rw (← c.self.view_is) at is.raft in
    let state = c.in-Some-Some.ensures.value s.raft raft in
    let applied = c.in-Some-Some.ensures'.value s.raft raft in
    (state.0, c.in_ok-new.ensures.ok ∙ (c.in_ok-fork.ensures ∙ state.1), applied.1)
