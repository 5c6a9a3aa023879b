-- The numbers of servers and messages stay within their limits.
use Rattle.std.proofs.Common.{◌≡◌, ℕ, Some, List, arith, slice_get}
use Rattle.machine_model.specs.MachineSpec.{MachineSpec, LawfulMachine}
use Rattle.raft_model.specs.Messages.{Message}
use Rattle.raft_model.specs.Rafts.{Raft}
use Rattle.raft_model.specs.Worlds.{World, Event, Run}
use Rattle.raft_model.specs.Chains.{At}
use Rattle.raft_safety.specs.Claims.{Limits, IsAmongMembers}
use Rattle.raft_safety.proofs.Runs.{run_front}
use Rattle.raft_safety.proofs.Limits.{run_bounds}
use Rattle.raft_safety.proofs.Sound.{sound_short}
use Rattle.raft_safety.proofs.Chains.{server_ok, log_admitted}

module _ {S C : Type 0} (m : MachineSpec S C) where
  -- a server at any moment
  pub server_limits : LawfulMachine m → (n : ℕ) (events : List (Event C)) (past : List (World C)) (w : World C) → Run m n events past w → (k i : ℕ) (s : Raft C) → At past w k i s → Limits s
  server_limits law n events past w r k i s a =
      let ok = server_ok m law n events past w r k i s a in
      let b = run_bounds m n _ _ a.world (run_front m n events past w r k a.world a.world_is) in
      record {
        term = b.terms i s a.here;
        index = omega (arith, sound_short m s.log (log_admitted m law n events past w r k i s a));
        covered = ok.log.based;
        commit = ok.log.within;
        terms = ok.log.terms;
      }

  -- a message that was ever sent
  pub message_within : (n : ℕ) (events : List (Event C)) (past : List (World C)) (w : World C) → Run m n events past w → (k : ℕ) (x : Message C) → slice_get w.sent k ≡ Some x → IsAmongMembers n x
  message_within n events past w r k x h = let b = run_bounds m n events past w r in b.given x (k, h)
