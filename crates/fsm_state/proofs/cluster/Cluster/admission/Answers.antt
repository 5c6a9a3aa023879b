use Rattle.std.proofs.Common.{◌≡◌, Option, sym, ap, subst}
use Rattle.std.specs.Prelude.{IfOk}
use Rattle.rows.specs.declared.refusal.Refusal.{Refusal}
use Rattle.fsm_model.specs.Admission.{admission}
use Rattle.fsm_state.proofs.cluster.Cluster.admission.Goals as goal

pub returns-in-Report-clause-ok : goal.returns-in-Report-clause-ok
returns-in-Report-clause-ok c = subst (λ (w : Option Refusal). IfOk c.report_refusal.result (λ r. r ≡ w)) (ap (admission c.args.self.now) (sym c.in-Report.is)) c.report_refusal.ensures
