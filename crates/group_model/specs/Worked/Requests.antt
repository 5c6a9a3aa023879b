-- What a client is listed, and what is appended of its requests.
use Rattle.std.specs.Prelude.{◌≡◌, ℕ, Option, Some, None, List, [], ◌∷◌, ◌++◌}
use Rattle.rows.specs.declared.size.Size.{Size}
use Rattle.rows.specs.declared.listing.LiveState.{LiveState}
use Rattle.rows.specs.declared.listing.LiveState.TheVariants as live_states
use Rattle.rows.specs.declared.listing.ListedAllocation.{ListedAllocation}
use Rattle.rows.specs.declared.command.ReportedState.TheVariants as reported
use Rattle.rows.specs.declared.command.Command.{Command}
use Rattle.rows.specs.declared.command.Command.TheVariants as commands
use Rattle.machine_model.specs.declared.entry.Entry.{Entry}
use Rattle.fsm_model.specs.Worked.Words.{linux, api, main, size, eval_id, alloc_id, comes}
use Rattle.group_model.specs.Inputs as inputs
use Rattle.group_model.specs.Servers as servers
use Rattle.group_model.specs.Servers.{Server}
use Rattle.rows.specs.declared.reason.Reason.{Reason}
use Rattle.rows.specs.declared.reason.Reason.TheVariants as reasons
use Rattle.rows.specs.declared.worker.ClientRequestKind.{ClientRequestKind}
use Rattle.rows.specs.declared.worker.ClientRequestKind.TheVariants as kinds
use Rattle.group_model.specs.Messages.{GroupMessage, Service, ToServer, ToClient, Register, Pull, ReportStates, Listing, Told}
use Rattle.group_model.specs.Worked.Words.{token, entry, leads, after_inputs, sent_by, a, narrow}

-- ---- the live allocations of its node, at the applied state

abbrev pub placed_log : List (Entry Command)
placed_log = narrow ++ entry 1 (commands.Plan (record {
  eval = eval_id 3 0;
  token = token 1 1;
  job = a;
  snapshot = 4;
  stops = [];
  places = record { group = main; index = 0; node = 1; size = size 600 100 } ∷ record { group = api; index = 0; node = 2; size = size 1 1 } ∷ [];
})) ∷ []

abbrev pub pulls : List (Entry Command) → ℕ → List GroupMessage
pulls log commit = sent_by (servers.step 3 0 (leads log commit None) (inputs.Arrives (ToServer 1 0 Pull)))

abbrev pub list_sent : ℕ → List ListedAllocation → List GroupMessage
list_sent index rows = Service (ToClient 0 1 (Listing index rows)) ∷ []

abbrev pub five_is : LiveState → List ListedAllocation
five_is state = record { id = alloc_id 5 0; size = size 600 100; state = state } ∷ []

abbrev pub Listed : Type 0
Listed = pulls placed_log 5 ≡ list_sent 5 (five_is live_states.Pending)

abbrev pub NotAppliedYet : Type 0
NotAppliedYet = pulls placed_log 4 ≡ list_sent 4 []

-- What is unknown is listed, and what is lost is not.
abbrev pub placed_away : List (Entry Command)
placed_away = placed_log ++ entry 1 (commands.Disconnect 1) ∷ []

abbrev pub placed_lost : List (Entry Command)
placed_lost = placed_away ++ entry 1 (commands.NodeDown 1) ∷ []

abbrev pub UnknownListed : Type 0
UnknownListed = pulls placed_away 6 ≡ list_sent 6 (five_is live_states.Unknown)

abbrev pub LostNotListed : Type 0
LostNotListed = pulls placed_lost 7 ≡ list_sent 7 []

-- ---- what is appended

abbrev pub runs_five : inputs.Input
runs_five = inputs.Arrives (ToServer 1 0 (ReportStates (record { id = alloc_id 5 0; state = reported.Running } ∷ [])))

abbrev pub registers : Size → inputs.Input
registers z = inputs.Arrives (ToServer 1 0 (Register linux z))

abbrev pub told : ClientRequestKind → Option Reason → List GroupMessage
told kind refused = Service (ToClient 0 1 (Told kind refused)) ∷ []

abbrev pub at_placed : Server
at_placed = leads placed_log 5 None

-- A report is appended; the same one once more changes no row, and is not.
abbrev pub five_runs : Entry Command
five_runs = entry 1 (commands.Report 1 (record { id = alloc_id 5 0; state = reported.Running } ∷ []))

abbrev pub ReportTaken : Type 0
ReportTaken = (after_inputs at_placed (runs_five ∷ [])).raft.log ≡ placed_log ++ five_runs ∷ []

abbrev pub ReportedTwice : Type 0
ReportedTwice = (after_inputs at_placed (runs_five ∷ runs_five ∷ [])).raft.log ≡ (after_inputs at_placed (runs_five ∷ [])).raft.log

abbrev pub ToldBothTimes : Type 0
ToldBothTimes = sent_by (servers.step 3 0 (after_inputs at_placed (runs_five ∷ [])) runs_five) ≡ told kinds.Report None

-- A report of what is unknown is appended, and one of what is lost is not.
abbrev pub UnknownReported : Type 0
UnknownReported = (after_inputs (leads placed_away 6 None) (runs_five ∷ [])).raft.log ≡ placed_away ++ five_runs ∷ []

abbrev pub LostReported : Type 0
LostReported = (after_inputs (leads placed_lost 7 None) (runs_five ∷ [])).raft.log ≡ placed_lost

-- A node that registers and is ready is not appended; one that is disconnected is. One of another
-- size is refused, and so is all at a server that does not lead.
abbrev pub SameNode : Type 0
SameNode = (after_inputs at_placed (registers (size 1000 1000) ∷ [])).raft.log ≡ placed_log

abbrev pub NodeBack : Type 0
NodeBack = (after_inputs (leads placed_away 6 None) (registers (size 1000 1000) ∷ [])).raft.log ≡ placed_away ++ entry 1 (comes 1 (size 1000 1000)) ∷ []

abbrev pub OtherSize : Type 0
OtherSize = sent_by (servers.step 3 0 at_placed (registers (size 1000 999))) ≡ told kinds.Register (Some reasons.NodeDiffers)

abbrev pub AtNoLeader : Type 0
AtNoLeader = sent_by (servers.step 3 0 servers.newcomer (registers (size 1000 1000))) ≡ told kinds.Register (Some (reasons.NotLeader None))
