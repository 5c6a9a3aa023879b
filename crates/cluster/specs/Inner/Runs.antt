-- Runs, and a group that plays the events of a run again.
use Rattle.std.specs.Prelude.{◌≡◌, ℕ, Ok, List, [], ◌∷◌, length}
use Rattle.rows.specs.declared.node.NodeSpec.{NodeSpec}
use Rattle.group_model.specs.Worlds.{World, Event, first, happens}
use Rattle.world.specs.GroupView.{GroupView, GroupRunsTo, nodes_of, renumbered}

module _ {W E : Type 0} where
  -- these events happen one after the other, from the first world to the second
  abbrev pub Runs : (W → E → W → Type 0) → W → List E → W → Type 0
  Runs happens w [] v = w ≡ v
  Runs happens w (e ∷ es) v = (u : W) × happens w e u × Runs happens u es v

-- all of these events happen in the definitions, one after the other, and lead to the second world
abbrev pub EventsLead : World → List Event → World → Type 0
EventsLead w events last =
    Runs (λ (v : World) (e : Event) (u : World). happens v e ≡ Ok u) w events last

-- they lead to this world from the beginning of a group of n servers and these nodes' clients
abbrev pub GroupLeads : ℕ → List NodeSpec → List Event → World → Type 0
GroupLeads n nodes events last = EventsLead (first n (renumbered 1 nodes)) events last

-- the definitions do not refuse any of them
abbrev pub AllHappen : ℕ → List NodeSpec → List Event → Type 0
AllHappen n nodes events = (last : World) × GroupLeads n nodes events last

-- the event happens in a world that the value represents, at the end of a run of it
abbrev pub CanHappen : GroupView → Event → Type 0
CanHappen view e =
    (past : List World) × (w : World) × (next : World) × GroupRunsTo view past w
    × (happens w e ≡ Ok next)

-- its run ends in the world to which they lead
abbrev pub RunsToLast : ℕ → List NodeSpec → List Event → GroupView → Type 0
RunsToLast n nodes events view =
    (last : World) → GroupLeads n nodes events last → (past : List World) × GroupRunsTo view past last

-- The value has played some of all events, and these are left: they lead on from its world, to
-- wherever all of them lead from the beginning.
pub record IsReplayed (n : ℕ) (nodes : List NodeSpec) (all done left : List Event) (view : GroupView) : Type 0 where
  pub count : length view.servers ≡ n
  pub nodes_are : nodes_of view ≡ renumbered 1 nodes
  pub trace : view.trace ≡ done
  pub past : List World
  pub world : World
  pub runs : GroupRunsTo view past world
  pub last : World
  pub rest : EventsLead world left last
  pub each : (end : World) → GroupLeads n nodes all end → EventsLead world left end
