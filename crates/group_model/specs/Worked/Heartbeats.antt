-- A node that was heard of since does not expire. One that expires is disconnected first, and goes
-- down only then; it is heard of meanwhile.
use Rattle.std.specs.Prelude.{◌≡◌, Bool, true, false, Option, Result, Ok, Err, List, [], ◌∷◌, ◌++◌}
use Rattle.rows.specs.declared.refusal.Refusal.{Refusal}
use Rattle.rows.specs.declared.refusal.Refusal.TheVariants as refusals
use Rattle.rows.specs.declared.command.Command.{Command}
use Rattle.rows.specs.declared.command.Command.TheVariants as commands
use Rattle.machine_model.specs.declared.entry.Entry.{Entry}
use Rattle.fsm_model.specs.Worked.Words.{size, comes}
use Rattle.group_model.specs.Desks.{Desk, after_entries, applied_state}
use Rattle.group_model.specs.Inputs as inputs
use Rattle.group_model.specs.Servers as servers
use Rattle.group_model.specs.Servers.{Server}
use Rattle.group_model.specs.Messages.{ToServer, Heartbeat}
use Rattle.group_model.specs.Worked.Words.{entry, leads, after_inputs, narrow, at_narrow}

abbrev pub heartbeat_comes : inputs.Input
heartbeat_comes = inputs.Arrives (ToServer 1 0 Heartbeat)

abbrev pub after_heartbeat : Server
after_heartbeat = after_inputs at_narrow (heartbeat_comes ∷ [])

abbrev pub is_stale : Result servers.ServerTurn Refusal → Bool
is_stale (Ok turn) = false
is_stale (Err refusals.StaleExpiry) = true
is_stale (Err r) = false

abbrev pub TooEarly : Type 0
TooEarly = is_stale (servers.step 3 0 after_heartbeat (inputs.Expire 1 0)) ≡ true

-- Under the number that it has now it is disconnected; and not once more before that is applied.
abbrev pub away_log : List (Entry Command)
away_log = narrow ++ entry 1 (commands.Disconnect 1) ∷ []

abbrev pub IsDisconnected : Type 0
IsDisconnected = (after_inputs after_heartbeat (inputs.Expire 1 1 ∷ [])).raft.log ≡ away_log

abbrev pub ExpiredAlready : Type 0
ExpiredAlready = is_stale (servers.step 3 0 (after_inputs after_heartbeat (inputs.Expire 1 1 ∷ [])) (inputs.Expire 1 1)) ≡ true

-- ---- the disconnection is applied, and perhaps more follows in the log

abbrev pub desk_away : Option Desk
desk_away = after_entries 1 (applied_state at_narrow.raft) (entry 1 (commands.Disconnect 1) ∷ []) after_heartbeat.desk

abbrev pub away_in : List (Entry Command) → Server
away_in log = leads log 5 desk_away

-- Under the number that it has still it goes down, and under no earlier one.
abbrev pub EarlierNumber : Type 0
EarlierNumber = is_stale (servers.step 3 0 (away_in away_log) (inputs.Expire 1 0)) ≡ true

abbrev pub GoesDown : Type 0
GoesDown = (after_inputs (away_in away_log) (inputs.Expire 1 1 ∷ [])).raft.log ≡ away_log ++ entry 1 (commands.NodeDown 1) ∷ []

-- It is heard of while it is disconnected.
abbrev pub HeartbeatAway : Type 0
HeartbeatAway = is_stale (servers.step 3 0 (after_inputs (away_in away_log) (heartbeat_comes ∷ [])) (inputs.Expire 1 1)) ≡ true

-- Where it comes back, and that is not applied yet, it goes down all the same.
abbrev pub back_log : List (Entry Command)
back_log = away_log ++ entry 1 (comes 1 (size 1000 1000)) ∷ []

abbrev pub DownAsItComes : Type 0
DownAsItComes = (after_inputs (away_in back_log) (inputs.Expire 1 1 ∷ [])).raft.log ≡ back_log ++ entry 1 (commands.NodeDown 1) ∷ []
