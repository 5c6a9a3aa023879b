-- Lines of events in the words of private contracts.
use Rattle.std.specs.Prelude.{◌≡◌, ℕ, List, [], ◌∷◌, codes, drop, get_or}
use Rattle.std.specs.List.{join_with_byte}
use Rattle.group_inputs.specs.Handings.{handing}
use Rattle.group_model.specs.Inputs as inputs
use Rattle.group_model.specs.Agents as agents
use Rattle.group_model.specs.Worlds.{Event, Deliver, AtServer, AtClient}
pub use Rattle.group_model.specs.Worlds.{IsRestart}
use Rattle.group_inputs.specs.Events.{position_of, client_input, server_input}
use Rattle.event_texts.specs.declared.line.Line.{Line}
use Rattle.event_texts.specs.declared.line.Line.TheVariants as lines
use Rattle.event_texts.specs.EventLines.{HasLine, ServerFits, event_words, server_text}

-- the event that a line says
abbrev pub line_event : Line → Event
line_event (lines.Deliver message) = Deliver (position_of message)
line_event (lines.Server server input) = AtServer server (server_input (handing input))
line_event (lines.Client client input) = AtClient client (client_input input)

-- ---- the first word of an event's line, and what stands behind it

abbrev pub verb_of : Event → List ℕ
verb_of event = get_or (event_words event) 0 []

abbrev pub operands_of : Event → List ℕ
operands_of event = join_with_byte 32 (drop 1 (event_words event))

pub record HasParts (event : Event) (verb operands : List ℕ) : Type 0 where
  pub fits : HasLine event
  pub first : verb ≡ verb_of event
  pub behind : operands ≡ operands_of event

-- ---- kinds of events

-- one that names a server and nothing else, other than those that a client has too
abbrev pub IsTurnInput : inputs.Input → Type 0
IsTurnInput inputs.Timeout = Unit {0}
IsTurnInput inputs.Beat = Unit {0}
IsTurnInput inputs.PlanTurn = Unit {0}
IsTurnInput inputs.FreeTurn = Unit {0}
IsTurnInput inputs.Reap = Unit {0}
IsTurnInput inputs.Compact = Unit {0}
IsTurnInput _ = ⊥

abbrev pub IsTurnEvent : Event → Type 0
IsTurnEvent (AtServer server input) = IsTurnInput input
IsTurnEvent _ = ⊥

abbrev pub IsRequest : Event → Type 0
IsRequest (AtServer server (inputs.Request request)) = Unit {0}
IsRequest _ = ⊥

abbrev pub IsSubmit : Event → Type 0
IsSubmit (AtServer server (inputs.SubmitTo to plan)) = Unit {0}
IsSubmit _ = ⊥

-- one whose line takes no memory to read
abbrev pub IsSmallInput : inputs.Input → Type 0
IsSmallInput (inputs.Request request) = ⊥
IsSmallInput (inputs.SubmitTo to plan) = ⊥
IsSmallInput _ = Unit {0}

abbrev pub IsSmall : Event → Type 0
IsSmall (AtServer server input) = IsSmallInput input
IsSmall _ = Unit {0}

abbrev pub IsFinish : Event → Type 0
IsFinish (AtServer server (inputs.FinishAt to eval token outcome)) = Unit {0}
IsFinish _ = ⊥

abbrev pub IsExpire : Event → Type 0
IsExpire (AtServer server (inputs.Expire node beats)) = Unit {0}
IsExpire _ = ⊥

abbrev pub IsEnd : Event → Type 0
IsEnd (AtClient client (agents.End id ok)) = Unit {0}
IsEnd _ = ⊥

abbrev pub IsCrash : Event → Type 0
IsCrash (AtServer server inputs.Crash) = Unit {0}
IsCrash (AtClient client agents.Crash) = Unit {0}
IsCrash _ = ⊥

-- ---- what stands before a list that is read

abbrev pub BeginsJob : List ℕ → Type 0
BeginsJob text = (rest : List ℕ) × (text ≡ join_with_byte 32 (codes "put" ∷ rest ∷ []))

abbrev pub BeginsJobRequest : List ℕ → Type 0
BeginsJobRequest text = (server : ℕ) × (rest : List ℕ) × ServerFits server
    × (text ≡ join_with_byte 32 (server_text server ∷ codes "put" ∷ rest ∷ []))

abbrev pub BeginsPlan : List ℕ → Type 0
BeginsPlan text = (server : ℕ) × (to : ℕ) × (rest : List ℕ) × ServerFits server × ServerFits to
    × (text ≡ join_with_byte 32 (server_text server ∷ server_text to ∷ rest ∷ []))
