use Rattle.std.proofs.Common.{T, List}
use Rattle.std.specs.Ordering.{nat_cmp}
use Rattle.rows.specs.declared.node.Node.{Node}
use Rattle.rows.specs.Keys.{node_number}
use Rattle.rows.specs.Rising.{is_rising}
use Rattle.fsm_state.proofs.Retold.{given_rows}
use Rattle.fsm_state.proofs.cluster.Cluster.nodes.Goals as goal

pub returns-clause-rising : goal.returns-clause-rising
returns-clause-rising c =
    let rise : List Node → Type 0 = λ rows. T (is_rising nat_cmp node_number rows) in
    given_rows c.copied_rows.result rise c.node_table-table.result.now c.copied_rows.ensures c.ranges-2.ensures.rising
