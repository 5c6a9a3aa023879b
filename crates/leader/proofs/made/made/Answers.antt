use Rattle.std.proofs.Common.{◌≡◌, ℕ, ◌<◌, ◌≤◌, List, None, length, sym, ap, subst, ◌∙◌, arith}
use Rattle.rows.specs.declared.evaluation.Evaluation.{Evaluation}
use Rattle.rows.specs.Keys.{eval_cmp, eval_id}
use Rattle.fsm_tables.specs.Rows.{row_of}
use Rattle.leader.specs.Inner.Changes.{TouchChanged}
use Rattle.leader.proofs.MadeRows.{slot_id, stopped_at, looked_at}
use Rattle.leader.proofs.made.made.Goals as goal

pub returns-in-None-2 : goal.returns-in-None-2
returns-in-None-2 c =
    let s = c.args.state.now in
    let n = c.loop-slot.slot in
    let at : c.in-Some.index ≡ s.count = c.in-Some.ensures.some.0 ∙ c.get.ensures.value ∙ c.applied.ensures in
    let none : row_of eval_cmp eval_id (slot_id s.count n) s.evals ≡ None = ap (λ (x : ℕ). row_of eval_cmp eval_id (slot_id x n) s.evals) (sym at) ∙ sym c.in-None.ensures in
    let few : length s.evals < 65536 = subst (λ (m : ℕ). m < 65536) (c.len-is_full.ensures ∙ ap length c.eval_table.ensures.rows) c.if-is_full.false in
    subst (λ (rows : List Evaluation). TouchChanged s rows) (sym c.loop-slot.invariant) (stopped_at s n none few)

pub returns : goal.returns
returns c =
    let s = c.args.state.now in
    let past : 256 ≤ c.loop-slot.slot = omega arith in
    subst (λ (rows : List Evaluation). TouchChanged s rows) (sym c.loop-slot.invariant) (looked_at s c.loop-slot.slot past)
