use Rattle.std.proofs.Common.{◌≡◌, cond, Some, None, sym, ap, ◌∙◌}
use Rattle.std.specs.Cmp.Lexicographic.{nat_list_cmp_total}
use Rattle.rows.specs.Keys.{name_cmp, job_name}
use Rattle.rows.specs.Limits.{most_jobs}
use Rattle.fsm_tables.proofs.RowLaws.{rising_put_within}
use Rattle.fsm_model.specs.Words.{job_of}
use Rattle.fsm_model.specs.Effect.{job_row, with_job_row, evaluations_created, is_named}
use Rattle.fsm_state.specs.Inner.Steps.{put_eval, eval_for}
use Rattle.fsm_state.proofs.Touching.{touched_found}
use Rattle.fsm_state.proofs.Retold.{retold}
use Rattle.fsm_state.proofs.cluster.Cluster.job_put.Goals as goal

pub returns-then-is_there : goal.returns-then-is_there
returns-then-is_there c =
    let s = c.args.self.now in
    let spec = c.args.spec.now in
    let row = job_row s.count spec in
    let t = with_job_row spec s in
    let rising = rising_put_within name_cmp job_name nat_list_cmp_total most_jobs row s.jobs c.ranges-2.ensures.tables.jobs.rising in
    let put = c.in_ok-is_there.ensures in
    let found : job_of spec.name t ≡ Some row = ap (job_of spec.name) (sym put.ok) ∙ put.row ∙ ap (λ b. cond b (Some row) None) c.if-is_there.true in
    let e : put_eval c.evaluation.result c.put_job_row.new.self ≡ evaluations_created (is_named spec.name) t =
    (λ i. put_eval (c.evaluation.ensures i) (put.ok i))
    ∙ (λ i. put_eval (eval_for (c.requires i) 0 spec.name spec.priority) t)
    ∙ touched_found spec.name (Some row) t rising found in
    retold c.put_eval.result c.put_eval.new.self _ _ e c.put_eval.ensures

pub returns : goal.returns
returns c =
    let s = c.args.self.now in
    let spec = c.args.spec.now in
    let row = job_row s.count spec in
    let t = with_job_row spec s in
    let rising = rising_put_within name_cmp job_name nat_list_cmp_total most_jobs row s.jobs c.ranges-2.ensures.tables.jobs.rising in
    let put = c.in_ok-is_there.ensures in
    let none : job_of spec.name t ≡ None = ap (job_of spec.name) (sym put.ok) ∙ put.row ∙ ap (λ b. cond b (Some row) None) c.if-is_there.false in
    put.ok ∙ touched_found spec.name None t rising none
