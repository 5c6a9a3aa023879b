-- The value is that of the state after every list of calls.
use Rattle.std.proofs.Common.{◌≡◌, T, List, [], ◌∷◌, refl, sym, ap, ◌∙◌}
use Rattle.rows.specs.Keys.{eval_cmp, eval_id}
use Rattle.rows.specs.Rising.{is_rising}
use Rattle.rows.proofs.KeyLaws.{eval_cmp_total}
use Rattle.fsm_tables.proofs.RowLaws.{rising_put}
use Rattle.fsm_model.specs.Words.{State, no_rows}
use Rattle.group_model.specs.Blocked.{BlockedEvals, blocked_over, blocked_with_eval, blocked_with_node, blocked_with_job}
use Rattle.group_model.proofs.BlockedRows.{blocked_follow_evals, blocked_follow_nodes, blocked_follow_jobs}
use Rattle.blocked.specs.Calls.{Call, Rebuild, EvalChanged, NodeChanged, JobChanged, IsOfState}

of_state : (calls : List Call) (s : State) (b : BlockedEvals) → T (is_rising eval_cmp eval_id s.evals) → b ≡ blocked_over s → IsOfState s b calls
of_state [] s b rising is = is
of_state (Rebuild its in_order ∷ calls) s b rising is = λ may. of_state calls its (blocked_over its) in_order refl
of_state (EvalChanged row ∷ calls) s b rising is = λ may.
    of_state calls _ _ (rising_put eval_cmp eval_id eval_cmp_total row s.evals rising) (ap (blocked_with_eval s row) is ∙ sym (blocked_follow_evals s row rising))
of_state (NodeChanged row ∷ calls) s b rising is = λ may. of_state calls _ _ rising (ap (blocked_with_node row) is ∙ sym (blocked_follow_nodes s row may))
of_state (JobChanged row ∷ calls) s b rising is = λ may. of_state calls _ _ rising (ap (blocked_with_job row) is ∙ sym (blocked_follow_jobs s row))

pub always_of_state : (calls : List Call) → IsOfState no_rows (record { evals = []; room = λ class. 0 }) calls
always_of_state calls = of_state calls no_rows (record { evals = []; room = λ class. 0 }) tt refl
