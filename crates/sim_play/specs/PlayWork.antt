-- What a server's worker makes of the oldest answer that came for it.
use Rattle.std.specs.Prelude.{◌≡◌, ◌⊎◌, ◌∷◌, ℕ, true, Option, Some, None, List, [], slice_get, slice_set}
use Rattle.rows.specs.declared.refusal.Refusal.{Refusal}
use Rattle.rows.specs.declared.worker.Work.{Work}
use Rattle.raft_model.specs.Rafts.{is_up}
use Rattle.group_model.specs.Desks.{applied_state}
use Rattle.group_model.specs.Servers.{Server}
use Rattle.group_model.specs.NextStep as steps
use Rattle.group_model.specs.Worlds.{AtServer, Event}
use Rattle.group_inputs.specs.declared.server_input.ServerInput.{ServerInput}
use Rattle.group_inputs.specs.Handings.{handing}
use Rattle.server.specs.ServerViews.{RefinesServer, ServerView}
use Rattle.workers.specs.declared.server_workers.Handled.{Handled}
use Rattle.workers.specs.declared.server_workers.Handled.TheVariants as handled
use Rattle.workers.specs.PlanCounts.{CountsStep, WorkersView, plans_under}
use Rattle.workers.specs.Working.{HandledAs, waiting_after}
use Rattle.group_inputs.specs.Events.{server_input}
use Rattle.world.specs.GroupView.{GroupView}
use Rattle.sim_play.specs.declared.play.Play.{Play}
use Rattle.sim_play.specs.PlayEvents.{EventRefused, EventTaken, IsDownIn}

-- the definitions' next step with this work, at the state that the server has applied, which is up,
-- after as many plans as are counted under the delivery
pub record IsNext (world : GroupView) (server : ℕ) (work : Work) (plans : ℕ) (step : steps.WorkerStep) : Type 0 where
  pub view : ServerView
  pub at : slice_get world.servers server ≡ Some view
  pub up : (s : Server) → RefinesServer view s → is_up s.raft.mode ≡ true
  pub next : (s : Server) → RefinesServer view s →
      steps.IsNextStep (applied_state s.raft) s.raft.commit work.response plans step

-- the input by which what a worker asks is sent, if it asks for anything
abbrev pub input_of : Handled → Option ServerInput
input_of handled.Waits = None
input_of handled.Dropped = None
input_of (handled.Asks input) = Some input

-- A worker took up the oldest that waited, and went on by its next step: this it asks then. What
-- needs a later state waits in front again.
pub record WentOn (world : GroupView) (server : ℕ) (old : WorkersView) (asked : Option ServerInput) (new : WorkersView) : Type 0 where
  pub work : Work
  pub rest : List Work
  pub oldest : old.waiting ≡ work ∷ rest
  pub step : steps.WorkerStep
  pub next : IsNext world server work (plans_under work.response old.plans) step
  pub made : Handled
  pub handled : HandledAs work.from step made
  pub asks : asked ≡ input_of made
  pub waiting : new.waiting ≡ waiting_after rest work step
  pub plans : CountsStep step old.plans new.plans

-- nothing was taken up, and nothing changed: the server is down, or nothing waits
pub record IsIdle (world : GroupView) (server : ℕ) (old : WorkersView) (asked : Option ServerInput) (new : WorkersView) : Type 0 where
  pub cause : IsDownIn world server ⊎ (old.waiting ≡ [])
  pub asks : asked ≡ None
  pub rest : new ≡ old

abbrev pub IsAsked : GroupView → ℕ → WorkersView → Option ServerInput → WorkersView → Type 0
IsAsked world server old asked new =
    IsIdle world server old asked new ⊎ WentOn world server old asked new

-- the workers of this server ask this, and those of no other changed
pub record WorkersAsk (old : Play) (server : ℕ) (asked : Option ServerInput) (new : Play) : Type 0 where
  pub before : WorkersView
  pub after : WorkersView
  pub own : slice_get old.workers server ≡ Some before
  pub asks : IsAsked old.world server before asked after
  pub others : new ≡ record old { workers = slice_set old.workers server after }

-- a server takes this as an input of its own
abbrev pub own_event : ℕ → ServerInput → Event
own_event server input = AtServer server (server_input (handing input))

-- what is asked, if anything, is such an event, which happens
abbrev pub AskTaken : Play → ℕ → Option ServerInput → Play → Type 0
AskTaken old server None new = new ≡ old
AskTaken old server (Some input) new = EventTaken old (own_event server input) new

-- or is refused
abbrev pub AskRefused : Play → ℕ → Option ServerInput → Refusal → Play → Type 0
AskRefused old server None refusal new = ⊥
AskRefused old server (Some input) refusal new = EventRefused old (own_event server input) refusal new

-- a turn of a server's worker
pub record WorkTaken (old : Play) (server : ℕ) (new : Play) : Type 0 where
  pub asked : Option ServerInput
  pub between : Play
  pub worked : WorkersAsk old server asked between
  pub taken : AskTaken between server asked new

-- the same, where what it asked is refused
pub record WorkRefused (old : Play) (server : ℕ) (refusal : Refusal) (new : Play) : Type 0 where
  pub asked : Option ServerInput
  pub between : Play
  pub worked : WorkersAsk old server asked between
  pub refused : AskRefused between server asked refusal new
