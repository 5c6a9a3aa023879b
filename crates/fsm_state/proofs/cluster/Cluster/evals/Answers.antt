use Rattle.std.proofs.Common.{T, List}
use Rattle.rows.specs.declared.evaluation.Evaluation.{Evaluation}
use Rattle.rows.specs.Keys.{eval_cmp, eval_id}
use Rattle.rows.specs.Rising.{is_rising}
use Rattle.fsm_state.proofs.Retold.{given_rows}
use Rattle.fsm_state.proofs.cluster.Cluster.evals.Goals as goal

pub returns-clause-rising : goal.returns-clause-rising
returns-clause-rising c =
    let rise : List Evaluation → Type 0 = λ rows. T (is_rising eval_cmp eval_id rows) in
    given_rows c.copied_rows.result rise c.eval_table-table.result.now c.copied_rows.ensures c.ranges-2.ensures.rising
