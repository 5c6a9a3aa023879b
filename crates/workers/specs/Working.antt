-- What a server's workers ask, and what waits then.
use Rattle.std.specs.Prelude.{◌≡◌, ℕ, ◌<◌, List, ◌∷◌, ◌++◌, length, take}
use Rattle.rows.specs.declared.worker.Work.{Work}
use Rattle.rows.specs.declared.worker.WorkerRequest.{WorkerRequest}
use Rattle.rows.specs.declared.worker.WorkerRequest.TheVariants as requests
use Rattle.group_model.specs.Inputs.{Input, TakeFrom, SubmitTo, FinishAt, NackAt}
use Rattle.group_model.specs.NextStep as steps
use Rattle.group_inputs.specs.Handings.{OwnInput, handing}
use Rattle.workers.specs.declared.server_workers.Handled.{Handled}
use Rattle.workers.specs.declared.server_workers.Handled.TheVariants as handled

-- what is asked of this server, as the input of the one that asks
abbrev pub asking : ℕ → WorkerRequest → Input
asking to requests.Take = TakeFrom to
asking to (requests.Submit plan) = SubmitTo to plan
asking to (requests.Finish eval token outcome) = FinishAt to eval token outcome
asking to (requests.Nack eval token) = NackAt to eval token

-- what becomes of work that this server sent, by the worker's next step
abbrev pub HandledAs : ℕ → steps.WorkerStep → Handled → Type 0
HandledAs from steps.Later h = h ≡ handled.Waits
HandledAs from steps.Drop h = h ≡ handled.Dropped
HandledAs from (steps.Ask request) handled.Waits = ⊥
HandledAs from (steps.Ask request) handled.Dropped = ⊥
HandledAs from (steps.Ask request) (handled.Asks input) = handing input ≡ OwnInput (asking from request)

-- what waits after a worker's step with what it took up
abbrev pub waiting_after : List Work → Work → steps.WorkerStep → List Work
waiting_after waiting work steps.Later = work ∷ waiting
waiting_after waiting work steps.Drop = waiting
waiting_after waiting work (steps.Ask request) = waiting

-- the first of what came, not all of it, wait behind what waited
abbrev pub KeptFirst : List Work → List Work → List Work → Type 0
KeptFirst old came new =
    (count : ℕ) × (count < length came) × (new ≡ old ++ take count came)
