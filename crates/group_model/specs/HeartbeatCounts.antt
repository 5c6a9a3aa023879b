-- The counts of heartbeats by themselves: one heartbeat more, and whether a node expires for want
-- of them; and what a desk makes of that.
use Rattle.std.specs.Prelude.{◌≡◌, ℕ, if◌then◌else◌, nat_eq, Option, Some, None, Result, Ok, Err, List}
use Rattle.rows.specs.declared.refusal.Refusal.{Refusal}
use Rattle.rows.specs.declared.refusal.Refusal.TheVariants as refusals
use Rattle.rows.specs.declared.command.Command.{Command}
use Rattle.group_model.specs.Expiry.{HeartbeatCount, heartbeat_count_of, with_heartbeat}
use Rattle.raft_model.specs.Rafts.{Raft}
use Rattle.group_model.specs.Desks.{Desk, applied_state}
use Rattle.group_model.specs.Inputs.{Act, AskPropose, asks}
use Rattle.rows.specs.declared.worker.ClientRequestKind.TheVariants as kinds
use Rattle.group_model.specs.ClientRequests.{answers, heartbeats_at}
use Rattle.group_model.specs.DeskTurns.{expiry_command, expire}

-- one heartbeat more of a node that is held
abbrev pub heartbeat_counted_of : ℕ → List HeartbeatCount → Option HeartbeatCount → Result (List HeartbeatCount) Refusal
heartbeat_counted_of n counts None = Err refusals.UnknownNode
heartbeat_counted_of n counts (Some c) = Ok (with_heartbeat n counts)

abbrev pub heartbeat_counted : ℕ → List HeartbeatCount → Result (List HeartbeatCount) Refusal
heartbeat_counted n counts = heartbeat_counted_of n counts (heartbeat_count_of n counts)

-- why a node does not expire for want of heartbeats since this one, if it does not
abbrev pub expiry_refusal_of : ℕ → Option HeartbeatCount → Option Refusal
expiry_refusal_of beats None = Some refusals.UnknownNode
expiry_refusal_of beats (Some c) = if nat_eq c.beats beats then None else Some refusals.StaleExpiry

abbrev pub expiry_refusal : ℕ → ℕ → List HeartbeatCount → Option Refusal
expiry_refusal n beats counts = expiry_refusal_of beats (heartbeat_count_of n counts)

-- ---- what a desk makes of that

abbrev pub answers_heartbeat : ℕ → ℕ → Desk → Result (List HeartbeatCount) Refusal → Act
answers_heartbeat me c d (Ok counts) = answers me c kinds.Heartbeat None (Some (record d { heartbeat_counts = counts }))
answers_heartbeat me c d (Err r) = answers me c kinds.Heartbeat (Some r) (Some d)

-- a heartbeat at an open desk is one of its counts
abbrev pub HeartbeatsByCounts : Type 0
HeartbeatsByCounts = (me c : ℕ) (d : Desk) → heartbeats_at me c d (heartbeat_count_of c d.heartbeat_counts) ≡ answers_heartbeat me c d (heartbeat_counted c d.heartbeat_counts)

abbrev pub expires_unless : Desk → Command → Option Refusal → Result Act Refusal
expires_unless d command None = Ok (asks (AskPropose command) (Some d))
expires_unless d command (Some r) = Err r

-- an expiry at a desk is one of its counts; what is proposed goes by the applied state
abbrev pub ExpiresByCounts : Type 0
ExpiresByCounts = (s : Raft Command) (d : Desk) (n beats : ℕ) →
    expire s d n beats ≡ expires_unless d (expiry_command (applied_state s) n) (expiry_refusal n beats d.heartbeat_counts)
