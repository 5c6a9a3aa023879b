use Rattle.std.proofs.Common.{[], ◌∷◌, ◌++◌, Bool, T, refl, subst, ap, sym, ◌∙◌, append_assoc, append-nil}
use Rattle.rows.specs.declared.evaluation.Evaluation.{Evaluation}
use Rattle.rows.specs.Keys.{eval_cmp, eval_id}
use Rattle.rows.specs.Rising.{is_rising}
use Rattle.fsm_model.specs.Words.{is_blocked}
use Rattle.fsm_tables.specs.Runs.{rows_left}
use Rattle.group_model.specs.Blocked.{blocked_id, blocked_eval}
use Rattle.group_model.proofs.KeptRows.{rising_kept}
use Rattle.blocked.proofs.RowByRow.{held_of, eval_held, eval_passed}
use Rattle.blocked.proofs.Wanting.{on_err, one_passes, behind_passes}
use Rattle.blocked.proofs.rebuild.evals_of.Goals as goal

abbrev waits : Evaluation → Bool
waits e = is_blocked e.status

pub loop-row-preserved-then-not-is_blocked : goal.loop-row-preserved-then-not-is_blocked
loop-row-preserved-then-not-is_blocked c =
    let s = c.args.state.now in
    let row = c.in-Some.row.now in
    let left = rows_left c.loop-row.row-iterator in
    let rest = rows_left c.next.new.self in
    record {
      held = sym (ap (λ zs. c.loop-row.held.items ++ zs) (eval_passed s row left rest c.in-Some.ensures.steps (sym c.if-not-is_blocked.ensures))) ∙ c.loop-row.invariant.held;
      some = behind_passes waits left rest s.evals row c.loop-row.invariant.some c.in-Some.ensures.steps;
    }

pub loop-row-preserved : goal.loop-row-preserved
loop-row-preserved c =
    let s = c.args.state.now in
    let row = c.in-Some.row.now in
    let left = rows_left c.loop-row.row-iterator in
    let rest = rows_left c.next.new.self in
    let done = c.loop-row.held.items in
    record {
      held = ap (λ zs. zs ++ held_of s rest) c.in_ok-push.ensures.items
          ∙ (λ i. (done ++ c.in_ok-held_of.ensures i ∷ []) ++ held_of s rest)
          ∙ append_assoc done (blocked_eval s row ∷ []) (held_of s rest)
          ∙ sym (ap (λ zs. done ++ zs) (eval_held s row left rest c.in-Some.ensures.steps (sym c.if-not-is_blocked.ensures))) ∙ c.loop-row.invariant.held;
      some = behind_passes waits left rest s.evals row c.loop-row.invariant.some c.in-Some.ensures.steps;
    }

pub of_rising-requires : goal.of_rising-requires
of_rising-requires c =
    let s = c.args.state.now in
    let held = c.loop-row.held.items in
    let items = sym (append-nil held) ∙ sym (ap (λ zs. held ++ held_of s zs) c.in-None.ensures.steps.0) ∙ c.loop-row.invariant.held in
    let rising = subst (λ es. T (is_rising eval_cmp eval_id es)) c.eval_table-table.ensures.rows c.ranges-2.ensures.rising in
    subst (λ zs. T (is_rising eval_cmp blocked_id zs)) (sym items)
    (rising_kept eval_cmp eval_id blocked_id (blocked_eval s) (λ x. refl) (λ (e : Evaluation). is_blocked e.status) s.evals rising)

pub returns-clause-ok : goal.returns-clause-ok
returns-clause-ok c =
    let s = c.args.state.now in
    let held = c.loop-row.held.items in
    c.of_rising.ensures ∙ sym (append-nil held) ∙ sym (ap (λ zs. held ++ held_of s zs) c.in-None.ensures.steps.0) ∙ c.loop-row.invariant.held

pub returns-in_err-held_of-clause-memory : goal.returns-in_err-held_of-clause-memory
returns-in_err-held_of-clause-memory c =
    on_err c.from_residual.result (one_passes waits (rows_left c.loop-row.row-iterator) (rows_left c.next.new.self) c.args.state.now.evals c.in-Some.row.now c.loop-row.invariant.some c.in-Some.ensures.steps (sym c.if-not-is_blocked.ensures))

pub returns-in_err-push-clause-memory : goal.returns-in_err-push-clause-memory
returns-in_err-push-clause-memory c =
    on_err c.from_residual-in_err-push.result (one_passes waits (rows_left c.loop-row.row-iterator) (rows_left c.next.new.self) c.args.state.now.evals c.in-Some.row.now c.loop-row.invariant.some c.in-Some.ensures.steps (sym c.if-not-is_blocked.ensures))
