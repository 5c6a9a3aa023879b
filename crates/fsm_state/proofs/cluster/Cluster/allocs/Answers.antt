use Rattle.std.proofs.Common.{T, List}
use Rattle.rows.specs.declared.allocation.Allocation.{Allocation}
use Rattle.rows.specs.Keys.{alloc_cmp, alloc_id}
use Rattle.rows.specs.Rising.{is_rising}
use Rattle.fsm_state.proofs.Retold.{given_rows}
use Rattle.fsm_state.proofs.cluster.Cluster.allocs.Goals as goal

pub returns-clause-rising : goal.returns-clause-rising
returns-clause-rising c =
    let rise : List Allocation → Type 0 = λ rows. T (is_rising alloc_cmp alloc_id rows) in
    given_rows c.copied_rows.result rise c.alloc_table-table.result.now c.copied_rows.ensures c.ranges-2.ensures.rising
