-- Lines by which a group settles are lines of steps.
use Rattle.std.proofs.Common.{◌≡◌, ◌∷◌, ℕ, List, [], inl, inr, map, refl, string_bytes, subst, sym, take}
use Rattle.std.specs.List.{All, AllByRecursion}
use Rattle.std.proofs.lemmas.List.Elements.{All-cons, All-nil}
use Rattle.rows.specs.declared.node.NodeSpec.{NodeSpec}
use Rattle.group_model.specs.Worlds.{Event}
use Rattle.event_texts.specs.EventLines.{HasLine, event_line}
use Rattle.sim_recovery.specs.Recoveries.{IsElection}
use Rattle.sim_expand.specs.declared.expanding.Taken.{Taken}
use Rattle.sim_expand.specs.Expanded.{AreElecting}
use Rattle.sim_expand.specs.Counts.{most_elected}
use Rattle.sim_expand.specs.Inner.Taking.{IsNoFlowLine, StandsAsTaken}
use Rattle.sim_expand.proofs.Beside.{same_world}
use Rattle.sim_expand.proofs.Flows.{event_no_flow}
use Rattle.sim_scenario.specs.Steps.{AnEvent}

-- the line of an event
event_step : (event : Event) → HasLine event → IsNoFlowLine (event_line event)
event_step event has = record { step = (AnEvent event, (has, refl)); other = event_no_flow event has }

all_steps : (events : List Event) → AllByRecursion HasLine events → All IsNoFlowLine (map event_line events)
all_steps [] have = All-nil IsNoFlowLine
all_steps (event ∷ events) have = All-cons IsNoFlowLine (event_line event) (map event_line events) (event_step event have.0) (all_steps events have.1)

pub election_steps : (servers : ℕ) (nodes : List NodeSpec) (events : List Event) (lines : List (List ℕ)) → IsElection servers nodes events lines → All IsNoFlowLine lines
election_steps servers nodes events lines (group, moment, inl (who, taken, elects, is)) = subst (All IsNoFlowLine) (sym is) (all_steps taken elects.lines)
election_steps servers nodes events lines (group, moment, inr (none, why)) = subst (All IsNoFlowLine) (sym none) (All-nil IsNoFlowLine)

pub electing : (t : Taken) (lines own : List (List ℕ)) → StandsAsTaken t → (let world = t.play.world in IsElection t.settings.servers t.nodes.now world.trace lines) → own ≡ take most_elected lines
    → AreElecting t.settings t.nodes.now (map string_bytes t.lines.items) own
electing t lines own stands is first = record {
  play = stands.other;
  stands = stands.led;
  lines = lines;
  election = rw (same_world t.behind stands.other t.play stands.beside) at is;
  first = first;
}
