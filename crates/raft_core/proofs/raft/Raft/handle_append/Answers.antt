use Rattle.std.proofs.Common.{◌≡◌, ◌≤◌, true, false, arith, refl, sym, ap, ◌∙◌}
use Rattle.raft_model.specs.Rafts.{is_leader}
use Rattle.raft_snapshot.proofs.Applies.{on_ok}
use Rattle.raft_core.proofs.Lives.{term_up}
use Rattle.raft_core.proofs.Sends.{sends-none}
use Rattle.raft_core.proofs.Follows.{append_own, append_followed}
use Rattle.raft_core.proofs.raft.Raft.handle_append.Goals as goal
use Rattle.raft_core.proofs.raft.Raft.handle_append.Goals.{else-its_term-term-2-via-then-its_term-term-2+else-is_leader, else-its_term-term-2-via-else-its_term-term-2}

pub returns-then-is_leader-clause-taken : goal.returns-then-is_leader-clause-taken
returns-then-is_leader-clause-taken g c =
    let m = g.M.Machine.spec in
    let a = c.args in
    let s = a.self.now.server in
    let head = c.into_parts-entries.ensures.head in
    let term : s.term ≡ c.self.inside.term = rw (← c.self.view_is) (term_up c.self.inside.machine _) in
    let same : s.term ≡ a.message.head.term = omega (arith, term, c.get-term.ensures.value, c.if-its_term-term-2.true, c.get-its_term.ensures.value, ap (λ h. h.term) head) in
    let leads : is_leader s.mode ≡ true = sym c.is_leader.ensures ∙ c.if-is_leader.true in
    rw (append_own m.noop a.self.now.size a.self.now.me s a.from a.message.head.term a.message.head.prev_index a.message.head.prev_term a.message.head.commit a.message.entries same leads)
    (record { server = refl; base = refl; me = refl; size = refl; sent = sends-none m a.outbox.now })

pub returns-else-stays-clause-taken : goal.returns-else-stays-clause-taken
returns-else-stays-clause-taken g c =
    let m = g.M.Machine.spec in
    let a = c.args in
    let s = a.self.now.server in
    let head = c.into_parts-entries.ensures.head in
    let term : s.term ≡ c.self.inside.term = rw (← c.self.view_is) (term_up c.self.inside.machine _) in
    let le : s.term ≤ a.message.head.term = omega (arith, term, c.get-term.ensures.value, c.if-its_term-term.false, c.get-its_term.ensures.value, ap (λ h. h.term) head) in
    let other : s.term ≡ a.message.head.term → is_leader s.mode ≡ false = λ same. elim c.else-its_term-term-2.branch [
      | else-its_term-term-2-via-then-its_term-term-2+else-is_leader w ↦ sym w.is_leader.ensures ∙ w.if-is_leader.false
      | else-its_term-term-2-via-else-its_term-term-2 w ↦ absurd (w.if-its_term-term-2.false (omega (arith, term, c.get-term.ensures.value, c.get-its_term.ensures.value, same, ap (λ h. h.term) head)))
    ] in
    let taken = rw head at c.refuse_append.ensures.taken in
    on_ok c.refuse_append.result (λ t. rw (append_followed m.noop a.self.now.size a.self.now.me s a.from a.message.head.term a.message.head.prev_index a.message.head.prev_term a.message.head.commit a.message.entries le other) (t a.message.entries)) taken
