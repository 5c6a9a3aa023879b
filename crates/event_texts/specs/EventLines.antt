-- The lines of events.
use Rattle.std.specs.Prelude.{◌≡◌, ◌+◌, ◌<◌, ◌^◌, ℕ, suc, Bool, true, false, List, [], ◌∷◌, codes, decimal}
use Rattle.std.specs.List.{join_with_byte}
use Rattle.rows.specs.Fits.{AllocIdFits, EvalIdFits, IndexFits, NodeIdFits, PlanFits, TokenFits}
use Rattle.group_model.specs.Worlds.{Event, Deliver, AtServer, AtClient}
use Rattle.group_model.specs.Inputs as inputs
use Rattle.group_model.specs.Agents as agents
use Rattle.group_inputs.specs.Events.{HasInput}
use Rattle.event_texts.specs.Requests.{RequestFits, request_text}
use Rattle.event_texts.specs.WorkerLines.{EndFits, alloc_text, eval_text, token_text, plan_words, outcome_words}

-- servers are numbered from 1 in text, and from 0 here
abbrev pub server_text : ℕ → List ℕ
server_text server = decimal (server + 1)

-- what crashes or begins again: a client has a `c` before its number
abbrev pub client_text : ℕ → List ℕ
client_text client = 99 ∷ decimal client

abbrev pub ServerFits : ℕ → Type 0
ServerFits server = server < 5

-- how an allocation ends
abbrev pub end_text : Bool → List ℕ
end_text true = codes "complete"
end_text false = codes "failed"

-- the words of an input of server s; no line says that a message arrives
abbrev pub server_event_words : ℕ → inputs.Input → List (List ℕ)
server_event_words s (inputs.Arrives message) = []
server_event_words s inputs.Timeout = codes "timeout" ∷ server_text s ∷ []
server_event_words s inputs.Beat = codes "beat" ∷ server_text s ∷ []
server_event_words s (inputs.Request request) = codes "request" ∷ server_text s ∷ request_text request ∷ []
server_event_words s (inputs.TakeFrom to) = codes "take" ∷ server_text s ∷ server_text to ∷ []
server_event_words s (inputs.SubmitTo to plan) = codes "submit" ∷ server_text s ∷ server_text to ∷ plan_words plan
server_event_words s (inputs.FinishAt to eval token outcome) =
    codes "finish" ∷ server_text s ∷ server_text to ∷ eval_text eval ∷ token_text token ∷ outcome_words outcome
server_event_words s (inputs.NackAt to eval token) =
    codes "nack" ∷ server_text s ∷ server_text to ∷ eval_text eval ∷ token_text token ∷ []
server_event_words s inputs.PlanTurn = codes "plan" ∷ server_text s ∷ []
server_event_words s (inputs.Lapse eval) = codes "lapse" ∷ server_text s ∷ eval_text eval ∷ []
server_event_words s (inputs.Expire node beats) = codes "expire" ∷ server_text s ∷ decimal node ∷ decimal beats ∷ []
server_event_words s (inputs.DrainTurn node) = codes "drain" ∷ server_text s ∷ decimal node ∷ []
server_event_words s inputs.FreeTurn = codes "free" ∷ server_text s ∷ []
server_event_words s inputs.Reap = codes "reap" ∷ server_text s ∷ []
server_event_words s inputs.Compact = codes "compact" ∷ server_text s ∷ []
server_event_words s inputs.Crash = codes "crash" ∷ server_text s ∷ []
server_event_words s inputs.Restart = codes "restart" ∷ server_text s ∷ []

-- the words of an input of client c
abbrev pub client_event_words : ℕ → agents.Input → List (List ℕ)
client_event_words c (agents.Arrives from response) = []
client_event_words c (agents.RegisterAt server) = codes "register" ∷ decimal c ∷ server_text server ∷ []
client_event_words c (agents.Ping server) = codes "ping" ∷ decimal c ∷ server_text server ∷ []
client_event_words c (agents.PullFrom server) = codes "pull" ∷ decimal c ∷ server_text server ∷ []
client_event_words c (agents.End id ok) = codes "end" ∷ decimal c ∷ alloc_text id ∷ end_text ok ∷ []
client_event_words c agents.Crash = codes "crash" ∷ client_text c ∷ []
client_event_words c agents.Restart = codes "restart" ∷ client_text c ∷ []

-- the words of an event's line; messages are numbered from 1 in text, and from 0 here
abbrev pub event_words : Event → List (List ℕ)
event_words (Deliver place) = codes "deliver" ∷ decimal (suc place) ∷ []
event_words (AtServer server input) = server_event_words server input
event_words (AtClient client input) = client_event_words client input

-- a line says such an input: its values are within their limits, and it is no arrival
abbrev pub ServerInputHasLine : inputs.Input → Type 0
ServerInputHasLine (inputs.Arrives message) = ⊥
ServerInputHasLine (inputs.Request request) = RequestFits request
ServerInputHasLine (inputs.TakeFrom to) = ServerFits to
ServerInputHasLine (inputs.SubmitTo to plan) = ServerFits to × PlanFits plan
ServerInputHasLine (inputs.FinishAt to eval token outcome) = ServerFits to × EvalIdFits eval × TokenFits token × EndFits outcome
ServerInputHasLine (inputs.NackAt to eval token) = ServerFits to × EvalIdFits eval × TokenFits token
ServerInputHasLine (inputs.Lapse eval) = EvalIdFits eval
ServerInputHasLine (inputs.Expire node beats) = NodeIdFits node × IndexFits beats
ServerInputHasLine (inputs.DrainTurn node) = NodeIdFits node
ServerInputHasLine _ = Unit {0}

abbrev pub ClientInputHasLine : agents.Input → Type 0
ClientInputHasLine (agents.Arrives from response) = ⊥
ClientInputHasLine (agents.RegisterAt server) = ServerFits server
ClientInputHasLine (agents.Ping server) = ServerFits server
ClientInputHasLine (agents.PullFrom server) = ServerFits server
ClientInputHasLine (agents.End id ok) = AllocIdFits id
ClientInputHasLine _ = Unit {0}

-- a line says such an event
abbrev pub HasLine : Event → Type 0
HasLine (Deliver place) = suc place < 2 ^ 64
HasLine (AtServer server input) = ServerFits server × ServerInputHasLine input
HasLine (AtClient client input) = NodeIdFits client × ClientInputHasLine input

-- the one line of an event: its words with one space between
abbrev pub event_line : Event → List ℕ
event_line event = join_with_byte 32 (event_words event)

abbrev pub IsEventLine : Event → List ℕ → Type 0
IsEventLine event line = HasLine event × (line ≡ event_line event)

-- Reading the line takes memory: it is that of an event with an input, or it begins as a request
-- with a job or a submission of a plan does, whose lists are read before the rest is known to be
-- good.
pub data TakesMemory (line : List ℕ) : Type 0 where
  of_input : (event : Event) → IsEventLine event line → HasInput event → TakesMemory line
  of_job : (server : ℕ) (rest : List ℕ) → ServerFits server
      → line ≡ join_with_byte 32 (codes "request" ∷ server_text server ∷ codes "put" ∷ rest ∷ []) → TakesMemory line
  of_plan : (server to : ℕ) (rest : List ℕ) → ServerFits server → ServerFits to
      → line ≡ join_with_byte 32 (codes "submit" ∷ server_text server ∷ server_text to ∷ rest ∷ []) → TakesMemory line

-- it is no arrival, and no message past the last number; the types see to all other limits
abbrev pub IsSayable : Event → Type 0
IsSayable (Deliver place) = suc place < 2 ^ 64
IsSayable (AtServer server (inputs.Arrives message)) = ⊥
IsSayable (AtClient client (agents.Arrives from response)) = ⊥
IsSayable _ = Unit {0}
