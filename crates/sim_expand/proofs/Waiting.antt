-- Where a worker waits for a later state.
use Rattle.std.proofs.Common.{◌≡◌, ◌∙◌, ◌<◌, ℕ, Bool, true, false, Option, None, Some, arith, inl, inr, sym}
use Rattle.std.proofs.lemmas.Bool.{ltb-false, ltb-true}
use Rattle.std.specs.Prelude.{◌↔◌, if◌then◌else◌}
use Rattle.rows.specs.State.{State}
use Rattle.rows.specs.declared.evaluation.Evaluation.{Evaluation}
use Rattle.rows.specs.declared.token.Delivery.{Delivery}
use Rattle.rows.specs.declared.reason.Reason.{Reason}
use Rattle.rows.specs.declared.worker.AskedRequest.{AskedRequest}
use Rattle.rows.specs.declared.worker.AskedRequest.TheVariants as asked
use Rattle.rows.specs.declared.worker.WorkerRequest.{WorkerRequest}
use Rattle.rows.specs.declared.worker.WorkerResponse.{WorkerResponse}
use Rattle.rows.specs.declared.worker.WorkerResponse.TheVariants.{Delivered, PlanResult, Refused}
use Rattle.group_model.specs.NextStep.{Ask, Drop, IsNextStep, IsStepOn, IsStepWithRow, Later, WorkerStep, after_refusal, gives_back, has_changes}
use Rattle.sim_expand.specs.Inner.Uses.{wait_of}

asks : (b : Bool) (x y : WorkerRequest) → (if b then Ask x else Ask y) ≡ Later → ⊥
asks true x y e = absurd (cc)
asks false x y e = absurd (cc)

asks_or_drops : (b : Bool) (x : WorkerRequest) → (if b then Ask x else Drop) ≡ Later → ⊥
asks_or_drops true x e = absurd (cc)
asks_or_drops false x e = absurd (cc)

-- with a state that is new enough it does not wait
goes_on : (s : State) (index plans : ℕ) (d : Delivery) (row : Option Evaluation) (step : WorkerStep) → IsStepWithRow s index plans d row step → step ≡ Later → ⊥
goes_on s index plans d None step is later = absurd (cc)
goes_on s index plans d (Some e) step (inl is) later = let given = is.1 in absurd (cc)
goes_on s index plans d (Some e) step (inr is) later = asks (has_changes is.1.0) _ _ (sym is.1.2 ∙ later)

waits : (s : State) (index plans : ℕ) (d : Delivery) (step : WorkerStep) → IsStepOn s index plans d step → (step ≡ Later) ↔ (index < d.wait)
waits s index plans d step (inl is) = ((λ _. ltb-true index d.wait is.0), (λ _. is.1))
waits s index plans d step (inr is) = ((λ later. absurd (goes_on s index plans d _ step is.1 later)), (λ less. let late = ltb-false index d.wait is.0 in absurd (omega (arith, late, less))))

refused_goes_on : (request : AskedRequest) (reason : Reason) → after_refusal request reason ≡ Later → ⊥
refused_goes_on (asked.Submit eval token) reason later = asks_or_drops (gives_back reason) _ later
refused_goes_on asked.Take reason later = absurd (cc)
refused_goes_on (asked.Finish eval token) reason later = absurd (cc)
refused_goes_on (asked.Nack eval token) reason later = absurd (cc)

-- a worker waits exactly until the state is as late as the answer asks for
pub waits_until : (response : WorkerResponse) (s : State) (index plans : ℕ) (step : WorkerStep) → IsNextStep s index response plans step → (step ≡ Later) ↔ (index < wait_of response)
waits_until (Delivered None) s index plans step is = ((λ later. absurd (cc)), (λ less. absurd (omega (arith, less))))
waits_until (Delivered (Some d)) s index plans step is = waits s index plans d step is
waits_until (PlanResult r) s index plans step is = waits s index plans (record { eval = r.eval; token = r.token; wait = r.last }) step is
waits_until (Refused request reason) s index plans step is = ((λ later. absurd (refused_goes_on request reason (sym is ∙ later))), (λ less. absurd (omega (arith, less))))
