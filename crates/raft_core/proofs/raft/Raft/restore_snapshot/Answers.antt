use Rattle.std.proofs.Common.{sym, ap, ◌∙◌, arith}
use Rattle.raft_snapshot.specs.Bases.{Base}
use Rattle.raft_core.proofs.Lives.{begun, up_levels}
use Rattle.raft_core.proofs.raft.Raft.restore_snapshot.Goals as goal

pub invariant_of-self : goal.invariant_of-self
invariant_of-self g c =
    let m = g.M.Machine.spec in
    let i = c.self.inside in
    let kept = c.self.invariant in
    let log = c.install.new.self in
    let at = c.covered-self-inside.ensures in
    let state = c.in_ok-machine.ensures ∙ sym (ap (λ (b : Base g.row.M.Denot). b.state) (c.install.ensures.base ∙ c.in-Some.ensures.2)) in
    let levels = up_levels m i.log.base i.log.entries i.commit i.matched.items i.machine _ (rw (← c.self.view_is) at c.requires.up) kept.live in
    record {
      number = kept.number;
      group = kept.group;
      elected = tt;
      index_left = tt;
      votes_each = kept.votes_each;
      next_each = kept.next_each;
      next_least = kept.next_least;
      next_most = kept.next_most;
      matched_each = kept.matched_each;
      live = rw at.value (begun m log.base log.entries i.matched.items c.in_ok-machine.machine (omega (arith, at.value, at.within)) state levels);
      second = rw c.forget.ensures tt;
    }
