use Rattle.std.proofs.Common.{None, arith}
use Rattle.machine_model.specs.declared.entry.Entry.{Entry}
use Rattle.raft_core.specs.declared.role.Role.TheVariants as roles
use Rattle.raft_core.proofs.Lives.{grown, reset, term_up}
use Rattle.raft_core.proofs.raft.Raft.become_leader.Goals as goal

pub invariant_of-self : goal.invariant_of-self
invariant_of-self g c =
    let m = g.M.Machine.spec in
    let i = c.self.inside in
    let kept = reset m i.me i.size i.term i.log.base i.log.entries i.role i.commit i.votes.items i.next.items i.matched.items c.fill.new.self.items c.fill-2.new.self.items _ _ _ i.machine i.projected c.self.invariant (omega arith) (omega (arith, c.last.ensures.value, c.get-first.ensures.value)) (c.fill.ensures.items (λ y e. e)) (c.fill-2.ensures.items (λ y e. e)) (omega (arith, c.fill.ensures.len, c.self.invariant.next_each, i.next.ok.0, c.fill.new.self.ok.0)) (omega (arith, c.fill-2.ensures.len, c.self.invariant.matched_each, i.matched.ok.0, c.fill-2.new.self.ok.0)) in
    rw c.in_err-append.ensures.err kept

pub invariant_of-self-2 : goal.invariant_of-self-2
invariant_of-self-2 g c =
    let m = g.M.Machine.spec in
    let i = c.self.inside in
    let kept = reset m i.me i.size i.term i.log.base i.log.entries i.role i.commit i.votes.items i.next.items i.matched.items c.fill.new.self.items c.fill-2.new.self.items _ _ _ i.machine i.projected c.self.invariant (omega arith) (omega (arith, c.last.ensures.value, c.get-first.ensures.value)) (c.fill.ensures.items (λ y e. e)) (c.fill-2.ensures.items (λ y e. e)) (omega (arith, c.fill.ensures.len, c.self.invariant.next_each, i.next.ok.0, c.fill.new.self.ok.0)) (omega (arith, c.fill-2.ensures.len, c.self.invariant.matched_each, i.matched.ok.0, c.fill-2.new.self.ok.0)) in
    let elected = rw (term_up i.machine _) at rw (← c.self.view_is) at c.requires.elected in
    let entry : Entry g.row.M-Command.Denot = record { term = i.term; command = c.new.result } in
    rw (c.append.ensures.base, c.in_ok-append.ensures.ok) (grown m i.me i.size i.term i.log.base i.log.entries entry i.role roles.Leader i.commit i.votes.items c.fill.new.self.items c.fill-2.new.self.items i.machine None None kept elected tt tt)
