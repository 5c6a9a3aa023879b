use Rattle.std.proofs.Common.{◌∙◌, arith}
use Rattle.raft_core.proofs.Lives.{fresh}
use Rattle.raft_core.proofs.raft.Raft.revive.Goals as goal

pub invariant_of-self : goal.invariant_of-self
invariant_of-self g c =
    let i = c.self.inside in
    let kept = c.self.invariant in
    record {
      number = kept.number;
      group = kept.group;
      elected = tt;
      index_left = tt;
      votes_each = kept.votes_each;
      next_each = kept.next_each;
      next_least = kept.next_least;
      next_most = kept.next_most;
      matched_each = omega (arith, c.fill.ensures.len, kept.matched_each, i.matched.ok.0, c.fill.new.self.ok.0);
      live = rw c.covered-self-inside.ensures.value (fresh g.M.Machine.spec i.log.base i.log.entries _ c.fill.new.self.items _ (omega (arith, c.covered-self-inside.ensures.value, c.covered-self-inside.ensures.within)) (c.in_ok-machine.ensures ∙ c.state.ensures.value) (c.fill.ensures.items (λ y e. e)));
      second = tt;
    }
