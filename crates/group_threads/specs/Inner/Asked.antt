-- What becomes of what a server's workers took up.
use Rattle.std.specs.Prelude.{◌≡◌, ◌⊎◌, ℕ, List}
use Rattle.rows.specs.declared.actor.Actor.{Actor}
use Rattle.rows.specs.declared.actor.Actor.TheVariants as actors
use Rattle.rows.specs.declared.refusal.Refusal.{Refusal}
use Rattle.rows.specs.declared.refusal.Refusal.TheVariants as refusals
use Rattle.rows.specs.declared.worker.Work.{Work}
use Rattle.fsm_model.specs.Words.{State}
use Rattle.group_model.specs.NextStep.{IsNextStep, WorkerStep}
use Rattle.group_model.specs.Worlds.{AtServer}
use Rattle.group_inputs.specs.declared.server_input.ServerInput.{ServerInput}
use Rattle.group_inputs.specs.Handings.{handing}
use Rattle.group_inputs.specs.Events.{server_input}
use Rattle.workers.specs.declared.server_workers.Handled.{Handled}
use Rattle.workers.specs.declared.server_workers.TakenWork.{TakenWork}
use Rattle.workers.specs.Working.{HandledAs}
use Rattle.cells.specs.declared.own_input.OwnInput.{OwnInput}
use Rattle.cells.specs.Actors.{own_event}
use Rattle.cells.specs.Cells.{EnvelopeView}
use Rattle.cells.specs.Turns.{TookTurn, WhyNoTurn, own_envelope}
use Rattle.group_threads.specs.WorkerTurns.{StepsTo, WhyNoState}

-- what becomes of it by the worker's next step, at the state of this index
pub record IsHandled (state : State) (index : ℕ) (taken : TakenWork) (h : Handled) : Type 0 where
  pub step : WorkerStep
  pub next : IsNextStep state index taken.work.response taken.plans step
  pub handled : HandledAs taken.work.from step h

-- what becomes of it by the worker's next step, at a state that a cell of the server has applied
pub record StepsAs (n server : ℕ) (taken : TakenWork) (h : Handled) : Type 0 where
  pub step : WorkerStep
  pub steps : StepsTo n server taken step
  pub handled : HandledAs taken.work.from step h

-- why there is no next step: the server has no state, or memory is wanting
abbrev pub WhyNoStep : ℕ → List Actor → ℕ → Refusal → Type 0
WhyNoStep n all server r = WhyNoState n all (actors.Server server) r ⊎ (r ≡ refusals.NoMemory)

-- an own input that is this input to each server that takes it
pub record IsOwn (input : ServerInput) (own : OwnInput) : Type 0 where
  pub event : (i : ℕ) → own_event (actors.Server i) own ≡ AtServer i (server_input (handing input))

-- in a group of n servers, a cell of this server took a turn by this input
pub record TookOwn (n server : ℕ) (input : ServerInput) (work : List Work) (sent : List EnvelopeView) (unsent : ℕ) : Type 0 where
  pub own : OwnInput
  pub is : IsOwn input own
  pub took : TookTurn n (own_envelope (actors.Server server) own) work sent unsent

-- why it took none: memory is wanting, or it is refused so
abbrev pub WhyNotOwn : ℕ → List Actor → ℕ → ServerInput → Refusal → Type 0
WhyNotOwn n all server input r =
    (r ≡ refusals.NoMemory)
    ⊎ ((own : OwnInput) × IsOwn input own
    × WhyNoTurn n all (actors.Server server) (own_envelope (actors.Server server) own) r)
