use Rattle.std.proofs.Common.{List, string_bytes, subst, sym}
use Rattle.rows.specs.declared.node.Node.{Node}
use Rattle.sim_tell.specs.Words.{TellsNew}
use Rattle.sim_tell.specs.Changes.{IsOldNode, node_words}
use Rattle.sim_tell.proofs.changes.push_nodes.Goals as goal

pub loop-row-preserved : goal.loop-row-preserved
loop-row-preserved c = λ after told.
    c.loop-row.invariant after
    (subst (λ (rows : List Node). TellsNew (IsOldNode c.args.old.now) node_words rows (string_bytes c.loop-row.words) after)
    (sym c.in-Some.ensures.steps) (string_bytes c.push_new_node.new.words, c.in_ok-push_new_node.ensures, told))
