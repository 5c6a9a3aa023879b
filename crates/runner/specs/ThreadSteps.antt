-- What the steps of a scenario do on threads, where messages come and workers run by themselves.
use Rattle.std.specs.Prelude.{◌≡◌, ◌⊎◌, ℕ, List}
use Rattle.rows.specs.declared.actor.Actor.{Actor}
use Rattle.rows.specs.declared.refusal.Refusal.{Refusal}
use Rattle.group_model.specs.Worlds.{AtClient, AtServer, Deliver, Event}
use Rattle.cells.specs.declared.own_input.OwnInput.{OwnInput}
use Rattle.cells.specs.Actors.{own_event}
use Rattle.group_threads.specs.Running.{TookInput}
use Rattle.cells.specs.Turns.{WhyNoTurn, own_envelope}
use Rattle.sim_scenario.specs.Steps.{AnEvent, Flow, Step, Work}
use Rattle.sim_play.specs.Played.{LinesPlayed, Refused}

-- it is the delivery of a message
abbrev pub IsDelivery : Event → Type 0
IsDelivery (Deliver place) = Unit {0}
IsDelivery (AtServer server input) = ⊥
IsDelivery (AtClient client input) = ⊥

-- in a group of n servers, a cell of the event's actor took a turn by its input
abbrev pub TakenByCell : ℕ → Event → Type 0
TakenByCell n event =
    (actor : Actor) × (input : OwnInput) × (own_event actor input ≡ event) × TookInput n actor input

-- it refused that, or the actor is not among those of the group
abbrev pub RefusedByCell : ℕ → List Actor → Event → Refusal → Type 0
RefusedByCell n all event refusal =
    (actor : Actor) × (input : OwnInput) × (own_event actor input ≡ event)
    × WhyNoTurn n all actor (own_envelope actor input) refusal

-- an event of a server or of a client is taken by its cell; all else is passed over
abbrev pub TakenOnThreads : ℕ → Step → Type 0
TakenOnThreads n (AnEvent event) = IsDelivery event ⊎ TakenByCell n event
TakenOnThreads n (Work server) = Unit {0}
TakenOnThreads n (Flow count) = Unit {0}

-- nothing but such an event is refused
abbrev pub RefusedOnThreads : ℕ → List Actor → Step → Refusal → Type 0
RefusedOnThreads n all (AnEvent event) refusal = RefusedByCell n all event refusal
RefusedOnThreads n all (Work server) refusal = ⊥
RefusedOnThreads n all (Flow count) refusal = ⊥

-- in a group of n servers, whose actors these are, each of these lines came once, and in order: this
-- was refused of them
abbrev pub LinesOnThreads : ℕ → List Actor → List (List ℕ) → List Refused → Type 0
LinesOnThreads n all lines refused =
    LinesPlayed {S = Unit {0}} (λ step old new. TakenOnThreads n step) (λ step old refusal new. RefusedOnThreads n all step refusal)
    lines tt refused tt
