use Rattle.std.proofs.Common.{◌≡◌, ap, ◌∙◌, arith}
use Rattle.raft_model.specs.Logs.{term_at}
use Rattle.raft_snapshot.specs.Bases.{Base}
use Rattle.raft_snapshot.proofs.Applies.{count_of}
use Rattle.raft_core.specs.RaftView.{mode_of}
use Rattle.raft_core.proofs.Compacts.{compacted_already, compacted_keeps}
use Rattle.raft_core.proofs.raft.Raft.compact.Goals as goal

pub returns-then-get-clause-taken : goal.returns-then-get-clause-taken
returns-then-get-clause-taken g c =
    let i = c.self.inside in
    let same : i.commit ≡ i.log.base.index = omega (arith, c.get.ensures.value, c.if-get.true, c.get-2.ensures.value, c.covered.ensures.value) in
    compacted_already g.M.Machine.spec c.args.self.now i.log.base i.machine i.me i.size i.term i.vote i.log.entries i.commit i.known (mode_of i.role i.votes.items i.next.items i.matched.items) _ c.self.view_is c.requires c.covered_is_committed.ensures same c.covered.ensures.noop_prefix

pub compact-requires-clause-counted : goal.compact-requires-clause-counted
compact-requires-clause-counted g c =
    let m = g.M.Machine.spec in
    let i = c.self.inside in
    let live = rw c.in-Some.is at c.self.invariant.live in
    ap m.count c.in_ok-state.ensures ∙ count_of m g.met.M.Machine.lawful i.log.base i.log.entries i.commit c.in-Some.machine c.covered.ensures.keeps.count live.covered live.committed live.state

pub invariant_of-self : goal.invariant_of-self
invariant_of-self g c =
    let m = g.M.Machine.spec in
    let i = c.self.inside in
    let kept = rw c.in-Some.is at c.self.invariant in
    let now = c.compact.ensures.base ∙ ap (λ (x : g.row.M.Denot). let b : Base g.row.M.Denot = record { index = i.commit; term = term_at i.log.entries i.commit; state = x } in b) (c.in_ok-state.ensures ∙ kept.live.state) in
    rw c.in-Some.is (compacted_keeps m i.log.base c.compact.new.self.base i.log.entries c.compact.new.self.entries i.commit (term_at i.log.entries i.commit) now c.compact.ensures.shows kept.live.covered kept.live.committed i.me i.size i.term i.role i.votes.items i.next.items i.matched.items c.in-Some.machine i.projected kept)
