use Rattle.std.proofs.Common.{List, Some, None, sym, subst}
use Rattle.eval_broker.specs.declared.ranks.Head.{Head}
use Rattle.eval_broker.specs.Inner.Lists.{AreHeads}
use Rattle.eval_broker.proofs.Heads.{head_added, head_space}
use Rattle.eval_broker.proofs.lists.Lists.add_head.Goals as goal

pub put-requires : goal.put-requires
put-requires c = head_space c.args.job.now c.args.self.now.ranks.rows c.args.self.now.heads.rows c.args.self.now.heads.capacity c.requires.capacity c.in-Some.head (sym c.in-Some.ensures) c.requires.heads

pub returns-in-Some-clause-heads : goal.returns-in-Some-clause-heads
returns-in-Some-clause-heads c =
    let job = c.args.job.now in
    let ps = c.args.self.now.ranks.rows in
    subst (λ (hs : List Head). AreHeads ps hs) (sym c.put.ensures.rows)
    (head_added job ps c.args.self.now.heads.rows (Some c.in-Some.head) (sym c.in-Some.ensures) c.requires.heads)

pub returns-in_default-clause-heads : goal.returns-in_default-clause-heads
returns-in_default-clause-heads c = head_added c.args.job.now c.args.self.now.ranks.rows c.args.self.now.heads.rows None (sym c.in_default.ensures) c.requires.heads
