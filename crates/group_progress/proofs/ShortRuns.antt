-- The log's run of a group is no longer than the group's.
use Rattle.std.proofs.Common.{◌≡◌, ℕ, zero, suc, ◌+◌, ◌≤◌, Bool, Option, Some, None, List, [], ◌∷◌, ◌++◌, length, arith}
use Rattle.rows.specs.declared.node.NodeSpec.{NodeSpec}
use Rattle.rows.specs.declared.command.Command.{Command}
use Rattle.raft_model.specs.Logs.{MAX}
use Rattle.raft_model.specs.Worlds as raft_worlds
use Rattle.raft_safety.proofs.Places.{get-some, push_length}
use Rattle.raft_safety.proofs.Runs as runs
use Rattle.raft_progress.specs.Recovery.{HasRoom}
use Rattle.raft_progress.proofs.Room.{short_has_room}
use Rattle.fsm_model.specs.ClusterMachine.{cluster_spec}
use Rattle.group_model.specs.Worlds.{World, Event, Run, raft_of, raft_event}
use Rattle.group_safety.specs.Claims.{Projection, Beside}
use Rattle.group_safety.proofs.GroupRuns.{run_even}
use Rattle.group_safety.proofs.Projections.{projection}

module _ (n : ℕ) (nodes : List NodeSpec) (events : List Event) (past : List World) (w : World) (run : Run n nodes events past w) (p : Projection n events past w) where
  even : length events ≡ length past
  even = run_even n nodes events past w run

  one_on : (o : Option (raft_worlds.Event Command)) (i j : ℕ) → Beside o p.log_events i j → j ≤ suc i
  one_on None i j b = omega (arith, b)
  one_on (Some f) i j b = omega (arith, b.1)

  -- each event of the group is one of the log's at most
  place_low : (k : ℕ) → k ≤ length past → p.place k ≤ k
  place_low zero le = omega (arith, p.begins)
  place_low (suc k) le =
      let x = get-some (past ++ w ∷ []) k (omega (arith, le, push_length past w)) in
      let e = get-some events k (omega (arith, le, even)) in
      omega (arith, place_low k (omega (arith, le)), one_on (raft_event x.0 e.0) (p.place k) (p.place (suc k)) (p.follows k x.0 e.0 x.1 e.1))

  log_short : length p.log_past ≤ length events
  log_short = omega (arith, place_low (length past) (omega arith), p.ends (length past) (omega arith), even)

-- so a short run has room
pub group_has_room : (n : ℕ) (nodes : List NodeSpec) (events : List Event) (past : List World) (w : World) → Run n nodes events past w → 2 ≤ n → length events + 2 ≤ MAX → (Q : ℕ → Bool) → HasRoom n Q (raft_of w)
group_has_room n nodes events past w run two short Q =
    let p = projection n nodes events past w run in
    short_has_room cluster_spec n two p.log_events p.log_past (raft_of w) p.run
    (omega (arith, short, log_short n nodes events past w run p, runs.run_even cluster_spec n p.log_events p.log_past (raft_of w) p.run)) Q
