-- What an agent of a node of 1000 cpu and 1000 memory starts and reports, list by list.
use Rattle.std.specs.Prelude.{◌≡◌, ℕ, true, Result, Ok, Err, List, [], ◌∷◌}
use Rattle.rows.specs.declared.refusal.Refusal.{Refusal}
use Rattle.rows.specs.declared.refusal.Refusal.TheVariants as refusals
use Rattle.rows.specs.declared.listing.LiveState.{LiveState}
use Rattle.rows.specs.declared.listing.LiveState.TheVariants as live_states
use Rattle.rows.specs.declared.command.ReportedState.TheVariants as reported
use Rattle.fsm_model.specs.Worked.Words.{linux, size, alloc_id}
use Rattle.group_model.specs.Agents as agents
use Rattle.group_model.specs.Agents.{Agent}
use Rattle.group_model.specs.Messages.{ServiceMessage, ToServer, ReportStates, Listing}

abbrev pub agent : Agent
agent = agents.agent_of (record { number = 1; class = linux; size = size 1000 1000 })

abbrev pub lists : ℕ → ℕ → LiveState → agents.Input
lists index id state = agents.Arrives 0 (Listing index (record { id = alloc_id id 0; size = size 600 300; state = state } ∷ []))

abbrev pub client_or : Agent → Result agents.AgentTurn Refusal → Agent
client_or c (Ok turn) = turn.client
client_or c (Err r) = c

abbrev pub after_lists : Agent → List agents.Input → Agent
after_lists c [] = c
after_lists c (input ∷ rest) = after_lists (client_or c (agents.step 3 c input)) rest

abbrev pub said : Result agents.AgentTurn Refusal → List ServiceMessage
said (Ok turn) = turn.sent
said (Err r) = []

abbrev pub runs_eight : List ServiceMessage
runs_eight = ToServer 1 0 (ReportStates (record { id = alloc_id 8 0; state = reported.Running } ∷ [])) ∷ []

-- A list of index 9 shows 8.0: it starts, and is reported.
abbrev pub StartsOne : Type 0
StartsOne = said (agents.step 3 agent (lists 9 8 live_states.Pending)) ≡ runs_eight

-- lists 9, then 7, then 9 again
abbrev pub after_nine : Agent
after_nine = after_lists agent (lists 9 8 live_states.Pending ∷ [])

-- An older list changes nothing.
abbrev pub OldListIsNothing : Type 0
OldListIsNothing = agents.step 3 after_nine (lists 7 5 live_states.Pending) ≡ Ok (record { client = after_nine; sent = [] })

abbrev pub after_old : Agent
after_old = after_lists after_nine (lists 7 5 live_states.Pending ∷ [])

-- The same list again starts nothing, and 8.0 is reported once more.
abbrev pub ReportsAgain : Type 0
ReportsAgain = said (agents.step 3 after_old (lists 9 8 live_states.Pending)) ≡ runs_eight

abbrev pub after_again : Agent
after_again = after_lists after_old (lists 9 8 live_states.Pending ∷ [])

abbrev pub StartedOnce : Type 0
StartedOnce = after_again.started ≡ alloc_id 8 0 ∷ []

abbrev pub ended : Agent
ended = after_lists after_again (agents.End (alloc_id 8 0) true ∷ [])

-- After its end it is reported complete, and not started again.
abbrev pub ReportsItsEnd : Type 0
ReportsItsEnd = said (agents.step 3 ended (lists 10 8 live_states.Running)) ≡ ToServer 1 0 (ReportStates (record { id = alloc_id 8 0; state = reported.Complete } ∷ [])) ∷ []

abbrev pub NotStartedAgain : Type 0
NotStartedAgain = (after_lists ended (lists 10 8 live_states.Running ∷ [])).started ≡ alloc_id 8 0 ∷ []

abbrev pub EndsOnce : Type 0
EndsOnce = agents.step 3 ended (agents.End (alloc_id 8 0) true) ≡ Err refusals.UnknownAlloc

-- After a restart the end of what was started is unknown, and it is not started again.
abbrev pub UnknownEnd : Type 0
UnknownEnd = said (agents.step 3 (after_lists agent (lists 9 8 live_states.Pending ∷ agents.Crash ∷ agents.Restart ∷ [])) (lists 9 8 live_states.Running))
    ≡ ToServer 1 0 (ReportStates (record { id = alloc_id 8 0; state = reported.Failed } ∷ [])) ∷ []
