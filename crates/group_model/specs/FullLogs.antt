-- What a leader with a full log answers to a registration and a report.
use Rattle.std.specs.Prelude.{◌≡◌, ℕ, true, false, nat_lt, Option, Some, None, length}
use Rattle.rows.specs.declared.command.Command.{Command}
use Rattle.rows.specs.declared.refusal.Refusal.TheVariants as refusals
use Rattle.rows.specs.declared.worker.ClientRequestKind.{ClientRequestKind}
use Rattle.raft_model.specs.Logs.{MAX}
use Rattle.raft_model.specs.Rafts.{Raft, is_leader}
use Rattle.group_model.specs.Desks.{Desk, projected_state}
use Rattle.group_model.specs.ClientRequests.{answers, is_taken_already, writes}

-- the server leads, and its log has no room
pub record LeadsFull (s : Raft Command) : Type 0 where
  pub leads : is_leader s.mode ≡ true
  pub full : nat_lt (length s.log) MAX ≡ false

abbrev pub TakenAtFullLog : Type 0
TakenAtFullLog = (me c : ℕ) (s : Raft Command) (kind : ClientRequestKind) (command : Command) (d : Option Desk) → LeadsFull s → is_taken_already (projected_state s) command ≡ true →
    writes me s c kind command d ≡ answers me c kind None d

abbrev pub ExhaustedAtFullLog : Type 0
ExhaustedAtFullLog = (me c : ℕ) (s : Raft Command) (kind : ClientRequestKind) (command : Command) (d : Option Desk) → LeadsFull s → is_taken_already (projected_state s) command ≡ false →
    writes me s c kind command d ≡ answers me c kind (Some refusals.Exhausted) d
