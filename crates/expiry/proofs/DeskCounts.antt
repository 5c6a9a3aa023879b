-- A heartbeat and an expiry at a desk are those of its counts.
use Rattle.std.proofs.Common.{◌≡◌, Bool, true, false, cond, Option, Some, None, Ok, Err, refl}
use Rattle.std.specs.Prelude.{nat_eq}
use Rattle.rows.specs.declared.command.Command.{Command}
use Rattle.rows.specs.declared.refusal.Refusal.TheVariants as refusals
use Rattle.group_model.specs.Expiry.{HeartbeatCount, heartbeat_count_of}
use Rattle.group_model.specs.Desks.{applied_state}
use Rattle.group_model.specs.Inputs.{AskPropose, asks}
use Rattle.group_model.specs.ClientRequests.{heartbeats_at}
use Rattle.group_model.specs.DeskTurns.{expiry_command, expire_of}
use Rattle.group_model.specs.HeartbeatCounts.{HeartbeatsByCounts, ExpiresByCounts, answers_heartbeat, heartbeat_counted_of, expires_unless, expiry_refusal_of}

pub heartbeats_by_counts : HeartbeatsByCounts
heartbeats_by_counts me c d = by (heartbeat_count_of c d.heartbeat_counts) where
  by : (m : Option HeartbeatCount) → heartbeats_at me c d m ≡ answers_heartbeat me c d (heartbeat_counted_of c d.heartbeat_counts m)
  by None = refl
  by (Some p) = refl

pub expires_by_counts : ExpiresByCounts
expires_by_counts s d n beats = by (heartbeat_count_of n d.heartbeat_counts) where
  command : Command
  command = expiry_command (applied_state s) n

  at : (b : Bool) → cond b (Ok (asks (AskPropose command) (Some d))) (Err refusals.StaleExpiry) ≡ expires_unless d command (cond b None (Some refusals.StaleExpiry))
  at true = refl
  at false = refl

  by : (m : Option HeartbeatCount) → expire_of d command beats m ≡ expires_unless d command (expiry_refusal_of beats m)
  by None = refl
  by (Some p) = at (nat_eq p.beats beats)
