use Rattle.std.proofs.Common.{◌≡◌, ◌||◌, ◌+◌, ◌<◌, ◌∷◌, drop, length, sym, ap, ◌∙◌, arith}
use Rattle.std.specs.BTreeSet.{contains}
use Rattle.std.proofs.lemmas.List.{drop_more}
use Rattle.rows.specs.Keys.{name_cmp}
use Rattle.fsm_model.specs.Words.{State, alloc_of}
use Rattle.fsm_state.specs.Inner.Steps.{has_name, ended_job, ended_jobs, tell_one, told_steps}
use Rattle.fsm_state.proofs.cluster.Cluster.apply_reports.Goals as goal

pub loop-report-preserved : goal.loop-report-preserved
loop-report-preserved c =
    let n = c.args.node in
    let rs = c.args.reports.now in
    let i = c.loop-report.report-index in
    let r = c.report-item.result in
    let s = c.loop-report.self in
    let left = drop (i + 1) rs in
    let lt : i < length rs = omega arith in
    let next : drop i rs ≡ r ∷ left = drop_more rs i r lt ∙ ap (λ q. q ∷ left) (sym c.report-item.is) in
    let after = c.in_ok-apply_report.ensures in
    record {
      state = ap (told_steps n left) after ∙ sym (ap (λ qs. told_steps n qs s) next) ∙ c.loop-report.invariant.state;
      jobs = λ name.
          c.in_ok-add_ended.ensures name (ended_jobs n left c.apply_report.new.self)
          ∙ ap (λ m. contains name_cmp c.loop-report.names name || has_name (ended_job (tell_one n r) m (ended_jobs n left c.apply_report.new.self)) name) c.alloc.ensures
          ∙ ap (λ (t : State). contains name_cmp c.loop-report.names name || has_name (ended_job (tell_one n r) (alloc_of r.id s) (ended_jobs n left t)) name) after
          ∙ sym (ap (λ qs. contains name_cmp c.loop-report.names name || has_name (ended_jobs n qs s) name) next)
          ∙ c.loop-report.invariant.jobs name;
    }
