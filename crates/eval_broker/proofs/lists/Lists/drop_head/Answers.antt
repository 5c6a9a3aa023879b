use Rattle.std.proofs.Common.{List, Some, None, sym, subst}
use Rattle.eval_broker.specs.declared.ranks.Head.{Head}
use Rattle.eval_broker.specs.Inner.Lists.{AreHeadsBut}
use Rattle.eval_broker.proofs.Heads.{head_dropped}
use Rattle.eval_broker.proofs.lists.Lists.drop_head.Goals as goal

pub returns-in-Some-clause-heads : goal.returns-in-Some-clause-heads
returns-in-Some-clause-heads c =
    let job = c.args.job.now in
    let ps = c.args.self.now.ranks.rows in
    subst (λ (hs : List Head). AreHeadsBut job ps hs) (sym c.cut.ensures.rows)
    (head_dropped job ps c.args.self.now.heads.rows (Some c.in-Some.head) (sym c.in-Some.ensures) c.requires)

pub returns-in_default-clause-heads : goal.returns-in_default-clause-heads
returns-in_default-clause-heads c = head_dropped c.args.job.now c.args.self.now.ranks.rows c.args.self.now.heads.rows None (sym c.in_default.ensures) c.requires
