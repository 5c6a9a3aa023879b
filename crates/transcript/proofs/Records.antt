-- What is recorded of a group can be written.
use Rattle.std.proofs.Common.{◌≡◌, ◌+◌, ◌<◌, ◌≤◌, ◌^◌, ◌∷◌, ℕ, suc, List, [], Some, arith, length, map, refl}
use Rattle.std.specs.List.{AllByRecursion}
use Rattle.std.specs.Prelude.{slice_get}
use Rattle.rows.specs.Fits.{SizeFits}
use Rattle.rows.specs.Names.{NameFits}
use Rattle.rows.specs.declared.node.NodeSpec.{NodeSpec}
use Rattle.group_model.specs.Worlds.{Event, Deliver, AtServer, AtClient}
use Rattle.group_model.specs.Inputs as inputs
use Rattle.group_model.specs.Agents as agents
use Rattle.client_agent.specs.AgentView.{AgentView}
use Rattle.world.specs.GroupClaims.{IsTraced}
use Rattle.world.specs.GroupView.{node_in}
use Rattle.event_texts.specs.EventLines.{IsSayable}
use Rattle.event_texts.specs.Transcripts.{AreNumberedFrom}

-- ---- nodes

pub numbered : (k : ℕ) (agents : List AgentView) → 1 ≤ k → k + length agents ≤ 65
    → ((i : ℕ) (a : AgentView) → slice_get agents i ≡ Some a → a.client.node.number ≡ k + i)
    → AllByRecursion (λ (n : NodeSpec). NameFits n.class × SizeFits n.size) (map node_in agents) → AreNumberedFrom k (map node_in agents)
numbered k [] from few places fits = tt
numbered k (a ∷ agents) from few places fits =
    let number : a.client.node.number ≡ k + 0 = places 0 a refl in
    let later : (i : ℕ) (b : AgentView) → slice_get agents i ≡ Some b → b.client.node.number ≡ suc k + i = λ i b is.
    let next = places (suc i) b is in
    omega arith in
    (((omega arith, omega arith), fits.0.0, fits.0.1), omega arith, numbered (suc k) agents (omega arith) (omega arith) later fits.1)

-- ---- events

sayable : (sent : ℕ) (event : Event) → sent < 2 ^ 64 → IsTraced sent event → IsSayable event
sayable sent (Deliver place) few is = omega arith
sayable sent (AtServer server (inputs.Arrives message)) few is = absurd is
sayable sent (AtServer server inputs.Timeout) few is = tt
sayable sent (AtServer server inputs.Beat) few is = tt
sayable sent (AtServer server (inputs.Request request)) few is = tt
sayable sent (AtServer server (inputs.TakeFrom to)) few is = tt
sayable sent (AtServer server (inputs.SubmitTo to plan)) few is = tt
sayable sent (AtServer server (inputs.FinishAt to eval token outcome)) few is = tt
sayable sent (AtServer server (inputs.NackAt to eval token)) few is = tt
sayable sent (AtServer server inputs.PlanTurn) few is = tt
sayable sent (AtServer server (inputs.Lapse eval)) few is = tt
sayable sent (AtServer server (inputs.Expire node beats)) few is = tt
sayable sent (AtServer server (inputs.DrainTurn node)) few is = tt
sayable sent (AtServer server inputs.FreeTurn) few is = tt
sayable sent (AtServer server inputs.Reap) few is = tt
sayable sent (AtServer server inputs.Compact) few is = tt
sayable sent (AtServer server inputs.Crash) few is = tt
sayable sent (AtServer server inputs.Restart) few is = tt
sayable sent (AtClient client (agents.Arrives from response)) few is = absurd is
sayable sent (AtClient client (agents.RegisterAt server)) few is = tt
sayable sent (AtClient client (agents.Ping server)) few is = tt
sayable sent (AtClient client (agents.PullFrom server)) few is = tt
sayable sent (AtClient client (agents.End id ok)) few is = tt
sayable sent (AtClient client agents.Crash) few is = tt
sayable sent (AtClient client agents.Restart) few is = tt

pub all_sayable : (sent : ℕ) (events : List Event) → sent < 2 ^ 64 → AllByRecursion (IsTraced sent) events → AllByRecursion IsSayable events
all_sayable sent [] few are = tt
all_sayable sent (event ∷ events) few are = (sayable sent event few are.0, all_sayable sent events few are.1)
