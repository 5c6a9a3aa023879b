-- That plans and steps are determined.
use Rattle.std.specs.Prelude.{◌≡◌, ℕ}
use Rattle.rows.specs.declared.evaluation.Evaluation.{Evaluation}
use Rattle.rows.specs.declared.worker.WorkerResponse.{WorkerResponse}
use Rattle.fsm_model.specs.Words.{State}
use Rattle.group_model.specs.Scheduling.{WorkerPlan, IsPlanFor}
use Rattle.group_model.specs.NextStep.{WorkerStep, IsNextStep}

abbrev pub OnePlan : Type 0
OnePlan = (s : State) (e : Evaluation) (index : ℕ) (p q : WorkerPlan)
    → IsPlanFor s e index p → IsPlanFor s e index q → p ≡ q

abbrev pub OneStep : Type 0
OneStep = (s : State) (index : ℕ) (work : WorkerResponse) (plans : ℕ) (a b : WorkerStep)
    → IsNextStep s index work plans a → IsNextStep s index work plans b → a ≡ b
