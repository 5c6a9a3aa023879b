use Rattle.std.proofs.Common.{◌≡◌, ◌+◌, false, length, arith}
use Rattle.raft_core.proofs.Follows.{accepts}
use Rattle.raft_core.proofs.raft.Raft.accept_append.Goals as goal

pub returns-in-Ok-clause-taken : goal.returns-in-Ok-clause-taken
returns-in-Ok-clause-taken g c =
    let m = g.M.Machine.spec in
    let a = c.args in
    let old-is = rw c.in-Some-machine.is at c.self.view_is in
    let later = rw (← old-is) at c.requires.later in
    let held = rw (← old-is) at c.requires.held in
    let reached : c.in-Some.reached ≡ a.head.now.prev_index + length a.entries.items = omega (arith, c.in-Some.ensures.some.0, c.get.ensures.value, c.len.ensures, a.entries.ok.0) in
    let sent = rw reached at c.in_ok-answer.ensures.ok in
    let risen = rw (c.max.ensures, c.min.ensures, c.get-commit.ensures.value, c.get-2.ensures.value, c.get-3.ensures.value, reached) at c.in-Some-new.ensures.some.0 in
    let grown = rw (c.get-commit.ensures.value, c.get-prev.ensures.value) at c.in-Ok.ensures.ok in
    rw (← old-is) (accepts m _ c.follow.new.self a.outbox.now c.answer.new.outbox a.from a.head.now.term a.head.now.prev_index _ a.head.now.commit later a.entries.items _ _ false held grown risen (rw (c.in-Ok.ensures.base, c.forget.ensures) at c.follow.ensures) sent)
