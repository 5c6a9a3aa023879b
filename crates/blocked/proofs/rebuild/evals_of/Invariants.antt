use Rattle.std.proofs.Common.{◌≡◌, ◌++◌, true}
use Rattle.std.specs.List.{list_any}
use Rattle.rows.specs.declared.evaluation.Evaluation.{Evaluation}
use Rattle.fsm_model.specs.Words.{is_blocked}
use Rattle.fsm_tables.specs.Runs.{rows_left}
use Rattle.blocked.proofs.RowByRow.{held_of}
use Rattle.blocked.proofs.rebuild.evals_of.Given as goal

abbrev pub invariant-loop-row : goal.invariant-loop-row
invariant-loop-row l = record {
  held : l.held.items ++ held_of l.state (rows_left l.row-iterator) ≡ held_of l.state l.state.evals;
  some : list_any (λ (e : Evaluation). is_blocked e.status) (rows_left l.row-iterator) ≡ true → list_any (λ (e : Evaluation). is_blocked e.status) l.state.evals ≡ true;
}
