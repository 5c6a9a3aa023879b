-- Turns of a server's workers. Which cells took part has no name: what is known is that there were
-- such cells.
use Rattle.std.specs.Prelude.{◌≡◌, ◌⊎◌, ℕ, ◌<◌, Bool, true, false, Some, None, List, [], ◌∷◌}
use Rattle.rows.specs.declared.actor.Actor.{Actor}
use Rattle.rows.specs.declared.actor.Actor.TheVariants as actors
use Rattle.rows.specs.declared.refusal.Refusal.{Refusal}
use Rattle.rows.specs.declared.refusal.Refusal.TheVariants as refusals
use Rattle.rows.specs.declared.worker.Work.{Work}
use Rattle.rows.specs.declared.worker.WorkerRequest.{WorkerRequest}
use Rattle.rows.specs.declared.worker.WorkerResponse.{WorkerResponse}
use Rattle.rows.specs.declared.worker.WorkerResponse.TheVariants.{Delivered, PlanResult, Refused}
use Rattle.raft_model.specs.Rafts.{is_up}
use Rattle.group_model.specs.NextStep.{WorkerStep, Later, Drop, Ask, IsNextStep}
use Rattle.group_model.specs.Worlds.{AtServer}
use Rattle.fsm_model.specs.Words.{State}
use Rattle.event_book.specs.Actors.{lists_actor}
use Rattle.actor.specs.declared.group_actor.GroupActor.{GroupActor}
use Rattle.actor.specs.declared.group_actor.GroupActor.TheVariants as group_actors
use Rattle.workers.specs.declared.server_workers.TakenWork.{TakenWork}
use Rattle.workers.specs.PlanCounts.{WorkersView, plans_under}
use Rattle.workers.specs.Working.{asking}
use Rattle.cells.specs.declared.own_input.OwnInput.{OwnInput}
use Rattle.cells.specs.Actors.{own_event}
use Rattle.cells.specs.Cells.{CellView, EnvelopeView, IsLedCell}
use Rattle.cells.specs.Turns.{CellHasNoState, CellHasState, CellRefuses, TookTurn, own_envelope}

-- ---- what a worker does with what it took up

-- it was the oldest of what waited for a server's workers, and so many plans were counted
pub record IsTakenUp (taken : TakenWork) : Type 0 where
  pub before : WorkersView
  pub rest : List Work
  pub oldest : before.waiting ≡ taken.work ∷ rest
  pub counted : taken.plans ≡ plans_under taken.work.response before.plans

-- this is a worker's next step with it, at a state that a cell of the server has applied
pub record StepsTo (n server : ℕ) (taken : TakenWork) (step : WorkerStep) : Type 0 where
  pub state : State
  pub index : ℕ
  pub applied : CellHasState n (actors.Server server) state index
  pub next : IsNextStep state index taken.work.response taken.plans step

-- An own input by which the server asks another, or itself, for its workers: what a worker's next
-- step with it asks.
pub record AsksWith (n server : ℕ) (taken : TakenWork) (own : OwnInput) : Type 0 where
  pub request : WorkerRequest
  pub step : StepsTo n server taken (Ask request)
  pub asks : (i : ℕ) → own_event (actors.Server i) own ≡ AtServer i (asking taken.work.from request)

-- how many entries a state comes after with which a worker goes on with this
abbrev pub least_index : WorkerResponse → ℕ
least_index (Delivered (Some d)) = d.wait
least_index (Delivered None) = 0
least_index (PlanResult r) = r.last
least_index (Refused asked reason) = 0

-- it is this server, which is up and has applied fewer entries
abbrev pub IsBehind : ℕ → ℕ → GroupActor → Type 0
IsBehind server least (group_actors.Server v) =
    (v.raft.me ≡ server) × (is_up v.raft.server.mode ≡ true) × (v.raft.server.commit < least)
IsBehind server least (group_actors.Client a) = ⊥

-- in a group of n servers, so is the actor of a cell that is led by its notes
abbrev pub CellIsBehind : ℕ → ℕ → ℕ → Type 0
CellIsBehind n server least = (c : CellView) × IsLedCell n c × IsBehind server least c.actor

-- Where a worker asks nothing: what it took up is dropped, where it went on with it; or it waits
-- for a later state of the server.
abbrev pub RestsWith : ℕ → ℕ → TakenWork → Bool → Type 0
RestsWith n server taken true = StepsTo n server taken Drop
RestsWith n server taken false =
    CellIsBehind n server (least_index taken.work.response) ⊎ StepsTo n server taken Later

-- ---- a worker's turn

-- in a group of n servers, a cell of this server took a turn by what a worker asks with this
abbrev pub TookAsked : ℕ → ℕ → TakenWork → List Work → List EnvelopeView → ℕ → Type 0
TookAsked n server taken work sent unsent =
    (own : OwnInput) × AsksWith n server taken own
    × TookTurn n (own_envelope (actors.Server server) own) work sent unsent

-- so did it by what a worker asks with what it took up
abbrev pub TookAsking : ℕ → ℕ → List Work → List EnvelopeView → ℕ → Type 0
TookAsking n server work sent unsent =
    (taken : TakenWork) × IsTakenUp taken × TookAsked n server taken work sent unsent

-- why its server took no turn: nothing waited, or it is so with what a worker took up
abbrev pub WentSo : ℕ → ℕ → Bool → Type 0
WentSo n server true = (taken : TakenWork) × IsTakenUp taken × RestsWith n server taken true
WentSo n server false =
    ((before : WorkersView) × (before.waiting ≡ []))
    ⊎ ((taken : TakenWork) × IsTakenUp taken × RestsWith n server taken false)

-- why a server's state is not copied: there is no such server among these, or a cell has no state
abbrev pub WhyNoState : ℕ → List Actor → Actor → Refusal → Type 0
WhyNoState n all actor r =
    (r ≡ refusals.OutOfRange) × (lists_actor all actor ≡ false) ⊎ CellHasNoState n actor r

-- a cell refuses what a worker of this server asks with this
abbrev pub RefusesAsked : ℕ → ℕ → TakenWork → Refusal → Type 0
RefusesAsked n server taken r =
    (own : OwnInput) × AsksWith n server taken own
    × CellRefuses n (actors.Server server) (own_envelope (actors.Server server) own) r

-- why nothing came of what a worker took up: its server has no state, memory is wanting, or its
-- server refuses what it asks
abbrev pub WhyNotAsked : ℕ → List Actor → ℕ → TakenWork → Refusal → Type 0
WhyNotAsked n all server taken r =
    WhyNoState n all (actors.Server server) r
    ⊎ (r ≡ refusals.NoMemory) ⊎ RefusesAsked n server taken r

-- why a worker took no turn: it is so with what it took up
abbrev pub WhyNoWorkerTurn : ℕ → List Actor → ℕ → Refusal → Type 0
WhyNoWorkerTurn n all server r =
    (taken : TakenWork) × IsTakenUp taken × WhyNotAsked n all server taken r
