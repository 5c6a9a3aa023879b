-- The leader's desk as one value, none where it is closed; and what its calls answer and leave.
use Rattle.std.specs.Prelude.{◌≡◌, ℕ, Bool, if◌then◌else◌, option_map, filter}
use Rattle.std.specs.Prelude.{Option, Some, None, Result, Ok, Err, List, [], ◌∷◌}
use Rattle.rows.specs.declared.evaluation.EvalId.{EvalId}
use Rattle.rows.specs.declared.token.Token.{Token}
use Rattle.rows.specs.declared.token.Delivery.{Delivery}
use Rattle.rows.specs.declared.allocation.AllocId.{AllocId}
use Rattle.rows.specs.declared.plan.Plan.{Plan}
use Rattle.rows.specs.declared.command.Command.{Command}
use Rattle.rows.specs.declared.command.Command.TheVariants as commands
use Rattle.rows.specs.declared.refusal.Refusal.{Refusal}
use Rattle.rows.specs.declared.refusal.Refusal.TheVariants as refusals
use Rattle.fsm_model.specs.Words.{State}
use Rattle.group_model.specs.Order.{first_by}
use Rattle.group_model.specs.Brokers.{Broker, Given, Nothing, UsedUp, Gives, task_id, deliver}
use Rattle.group_model.specs.Brokers.{outstanding, is_outstanding, with_ack, with_nack, failed}
use Rattle.group_model.specs.Blocked.{BlockedEval, BlockedEvals, blocked_id, blocked_over, due}
use Rattle.group_model.specs.Blocked.{is_still_blocked}
use Rattle.group_model.specs.Expiry.{HeartbeatCount}
use Rattle.group_model.specs.HeartbeatCounts.{heartbeat_counted, expiry_refusal}
use Rattle.group_model.specs.Drains.{is_done, next_moves}
use Rattle.group_model.specs.Desks.{Desk, opened}
use Rattle.group_model.specs.Plans.{submitted}
use Rattle.group_model.specs.DeskTurns.{expiry_command, is_still_pending}
use Rattle.blocked.specs.Rooms.{BlockedRows, blocked_of, some_due}

-- the group's desk, what is kept of the blocked evaluations, and the leader's term
pub record OpenDesk : Type 0 where
  pub desk : Desk
  pub blocked : BlockedRows
  pub term : ℕ

abbrev pub with_desk : Desk → OpenDesk → OpenDesk
with_desk d o = record o { desk = d }

abbrev pub with_heartbeat_counts : List HeartbeatCount → OpenDesk → OpenDesk
with_heartbeat_counts counts o = record o { desk = record o.desk { heartbeat_counts = counts } }

abbrev pub with_broker : Broker → OpenDesk → OpenDesk
with_broker b o = record o { desk = record o.desk { broker = b } }

-- it has just opened, over a state, in this term
pub record IsOpened (s : State) (t : ℕ) (o : OpenDesk) : Type 0 where
  pub desk : o.desk ≡ opened s
  pub blocked : blocked_of o.blocked ≡ blocked_over s
  pub term : o.term ≡ t

abbrev pub IsOpenedBy : State → ℕ → Option OpenDesk → Type 0
IsOpenedBy s term None = ⊥
IsOpenedBy s term (Some o) = IsOpened s term o

-- what it keeps of blocked evaluations is of a state, if it is open
abbrev pub IsOverBlocked : State → Option OpenDesk → Type 0
IsOverBlocked s None = ⊥
IsOverBlocked s (Some o) = blocked_of o.blocked ≡ blocked_over s

-- some of its blocked evaluations is due
abbrev pub has_due : OpenDesk → Bool
has_due o = some_due (blocked_of o.blocked)

-- ---- calls

-- an open desk alone may want memory
abbrev pub OutOfMemoryIfOpen : Option OpenDesk → Refusal → Type 0
OutOfMemoryIfOpen None e = ⊥
OutOfMemoryIfOpen (Some o) e = e ≡ refusals.NoMemory

-- what an open desk answers; a closed one refuses the call
abbrev pub if_open : {A : Type 0} → (OpenDesk → Result A Refusal)
    → Option OpenDesk → Result A Refusal
if_open call None = Err refusals.NotOpen
if_open call (Some o) = call o

-- What comes of a call that changes the desk: its answer and the desk that it leaves, which stays
-- open; or why it is refused.
abbrev pub Answered : Type 0 → Type 0
Answered A = Result (A × OpenDesk) Refusal

abbrev pub leaves_open : {A : Type 0} → Answered A → Result (A × Option OpenDesk) Refusal
leaves_open (Err r) = Err r
leaves_open (Ok p) = Ok (p.0, Some p.1)

abbrev pub at_open : {A : Type 0} → (OpenDesk → Answered A)
    → Option OpenDesk → Result (A × Option OpenDesk) Refusal
at_open call None = Err refusals.NotOpen
at_open call (Some o) = leaves_open (call o)

-- Deliver: the evaluation that goes next, if one does.
abbrev pub once_given : OpenDesk → Given → Answered (Option Delivery)
once_given o Nothing = Ok (None, o)
once_given o UsedUp = Err refusals.Exhausted
once_given o (Gives what broker) = Ok (Some what, with_broker broker o)

abbrev pub on_deliver : ℕ → OpenDesk → Answered (Option Delivery)
on_deliver wait o = once_given o (deliver o.term wait o.desk.broker)

-- for a state of which index an outstanding pair waits, or why it is none
abbrev pub on_outstanding : EvalId → Token → OpenDesk → Result ℕ Refusal
on_outstanding eval token o = outstanding eval token o.desk.broker

-- Ack, Nack: an outstanding pair is done with, or free again.
abbrev pub once_outstanding : OpenDesk → Result ℕ Refusal → Answered (Unit {0})
once_outstanding new (Err r) = Err r
once_outstanding new (Ok wait) = Ok (tt, new)

abbrev pub on_ack : EvalId → Token → OpenDesk → Answered (Unit {0})
on_ack eval token o =
    once_outstanding (with_broker (with_ack eval o.desk.broker) o) (on_outstanding eval token o)

abbrev pub on_nack : EvalId → Token → OpenDesk → Answered (Unit {0})
on_nack eval token o =
    once_outstanding (with_broker (with_nack eval o.desk.broker) o) (on_outstanding eval token o)

-- Lapse: what is outstanding is free again, whatever its token.
abbrev pub on_lapse : EvalId → OpenDesk → Answered (Unit {0})
on_lapse eval o =
    if is_outstanding eval o.desk.broker
    then Ok (tt, with_broker (with_nack eval o.desk.broker) o)
    else Err refusals.NotOutstanding

-- Submit: the plan waits, unless its evaluation has no row in the applied state or the queue is
-- full.
abbrev pub once_submitted : OpenDesk → Result Desk Refusal → Answered (Unit {0})
once_submitted o (Err r) = Err r
once_submitted o (Ok d) = Ok (tt, with_desk d o)

abbrev pub on_submit : ℕ → State → Plan → OpenDesk → Answered (Unit {0})
on_submit from applied p o = once_submitted o (submitted from applied o.desk p)

-- Free: the first that is due, and is still blocked after the whole log.
abbrev pub first_freed : State → BlockedEvals → Option BlockedEval
first_freed projected b =
    first_by (λ (e : BlockedEval). e.row.priority)
    (filter (λ (e : BlockedEval). is_still_blocked projected e.row) (due b))

abbrev pub on_free_turn : State → OpenDesk → Result (Option EvalId) Refusal
on_free_turn projected o = Ok (option_map blocked_id (first_freed projected (blocked_of o.blocked)))

-- Reap: the first that was given out as often as may be, and is still pending after the whole log.
abbrev pub on_reap : State → OpenDesk → Result (Option EvalId) Refusal
on_reap projected o =
    Ok (option_map task_id
    (first_by (λ t. t.priority) (filter (is_still_pending projected) (failed o.desk.broker))))

-- Beat: a node was heard of once more, unless its heartbeats are not counted.
abbrev pub once_counted : OpenDesk → Result (List HeartbeatCount) Refusal → Answered (Unit {0})
once_counted o (Err r) = Err r
once_counted o (Ok counts) = Ok (tt, with_heartbeat_counts counts o)

abbrev pub on_heartbeat : ℕ → OpenDesk → Answered (Unit {0})
on_heartbeat node o = once_counted o (heartbeat_counted node o.desk.heartbeat_counts)

-- Expire: what is proposed, by the applied state, of a node that was heard of so often and not
-- since.
abbrev pub unless_refused : Command → Option Refusal → Result Command Refusal
unless_refused c None = Ok c
unless_refused c (Some r) = Err r

abbrev pub on_expire : ℕ → ℕ → State → OpenDesk → Result Command Refusal
on_expire node beats applied o =
    unless_refused (expiry_command applied node) (expiry_refusal node beats o.desk.heartbeat_counts)

-- Drain: what is proposed of a node's drain by the state after the whole log, if anything is: that
-- it is done where nothing lives on the node, else that its next moves are made.
abbrev pub migrate_if_any : List AllocId → Option Command
migrate_if_any [] = None
migrate_if_any (id ∷ ids) = Some (commands.Migrate (id ∷ ids))

abbrev pub drain_command_of : State → ℕ → Result (List AllocId) Refusal
    → Result (Option Command) Refusal
drain_command_of projected node (Err r) = Err r
drain_command_of projected node (Ok ids) =
    Ok (if is_done node projected then Some (commands.DrainDone node) else migrate_if_any ids)

abbrev pub drain_command : State → ℕ → Result (Option Command) Refusal
drain_command projected node = drain_command_of projected node (next_moves projected node)

abbrev pub on_drain_turn : ℕ → State → OpenDesk → Result (Option Command) Refusal
on_drain_turn node projected o = drain_command projected node
