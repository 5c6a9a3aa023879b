use Rattle.std.proofs.Common.{arith, length, ap, ◌∙◌}
use Rattle.std.proofs.lemmas.Bool.{MatchBool-at_true}
use Rattle.std.proofs.lemmas.List.{length-replicate}
use Rattle.raft_core.specs.Steps.{IsGroupMember}
use Rattle.raft_core.proofs.Lives.{fresh, filled_least, filled_most}
use Rattle.raft_core.proofs.Members.{group-small}
use Rattle.raft_core.proofs.raft.Raft.restart.Goals as goal

pub invariant_of-result : goal.invariant_of-result
invariant_of-result g c =
    let member : IsGroupMember c.args.size c.args.me = MatchBool-at_true _ _ c.if-not-is_member.false c.is_member.ensures in
    let size = c.args.size in
    let made = c.in-Ok.ensures in
    record {
      number = member.1;
      group = group-small size member.0;
      elected = tt;
      index_left = tt;
      votes_each = ap length made.votes ∙ length-replicate size _;
      next_each = ap length made.next ∙ length-replicate size _;
      next_least = filled_least c.in-Ok.levels.next.items size 1 size made.next (omega arith) (ap length made.next ∙ length-replicate size _);
      next_most = filled_most c.in-Ok.levels.next.items size 1 made.next (omega arith);
      matched_each = ap length made.matched ∙ length-replicate size _;
      live = rw c.covered-commit.ensures.value (fresh g.M.Machine.spec _ _ size c.in-Ok.levels.matched.items _ (omega (arith, c.covered-commit.ensures.value, c.covered-commit.ensures.within)) (c.in-Ok-fork.ensures ∙ c.state.ensures.value) made.matched);
      second = tt;
    }
