-- What holds of every world that was reached. Moments, and the servers and logs at them, are those
-- of the value's runs.
use Rattle.std.specs.Prelude.{◌≡◌, ℕ, Bool, if◌then◌else◌, Option, Some, None, List, length, take, slice_get}
use Rattle.machine_model.specs.MachineSpec.{MachineSpec}
use Rattle.machine_model.specs.declared.entry.Entry.{Entry}
use Rattle.raft_model.specs.Logs.{state_after}
use Rattle.raft_model.specs.Quorums.{Quorum}
use Rattle.raft_model.specs.Rafts.{Raft, is_up}
use Rattle.raft_model.specs.Worlds.{World, OneLeader}
use Rattle.raft_model.specs.Chains.{Chain}
use Rattle.raft_safety.specs.Claims.{LogMatching}
use Rattle.raft_progress.specs.Recovery.{AllUp, HasRoom, CanSettle, CanRecover, everybody}
use Rattle.world.specs.WorldView.{WorldView, RunsTo}

-- The value has a run, and in each of its runs no two servers ever led one term. (Raft, Figure 3,
-- election safety.)
pub record OneLeaderEver {S C : Type 0} (m : MachineSpec S C) (view : WorldView S C) : Type 0 where
  pub past : List (World C)
  pub world : World C
  pub runs : RunsTo m view past world
  pub ever : (past : List (World C)) (w : World C) → RunsTo m view past w → OneLeader past w

-- The value has a run, and in each of its runs two logs that hold an entry of one index and term,
-- at one moment or at two, are the same up to it. (Raft, Figure 3, log matching.)
pub record LogsMatchEver {S C : Type 0} (m : MachineSpec S C) (view : WorldView S C) : Type 0 where
  pub past : List (World C)
  pub world : World C
  pub runs : RunsTo m view past world
  pub ever : (past : List (World C)) (w : World C) → RunsTo m view past w → LogMatching past w

-- The value has a run, and there is one list, of length `chain`: in each of its runs what a server
-- had committed is the beginning of that list, at every moment, and whoever leads a term has in its
-- log what a server in a term up to that one had committed by then. (Raft, Figure 3, leader
-- completeness and state machine safety.)
pub record OneListEver {S C : Type 0} (m : MachineSpec S C) (view : WorldView S C) : Type 0 where
  pub past : List (World C)
  pub world : World C
  pub runs : RunsTo m view past world
  pub list : List (Entry C)
  pub long : length list ≡ view.chain
  pub ever : (past : List (World C)) (w : World C) → RunsTo m view past w → Chain past w list

-- The value has a run, and in each of its runs the state after each first part of that list is
-- safe, in the machine's sense.
pub record StatesSafeEver {S C : Type 0} (m : MachineSpec S C) (view : WorldView S C) : Type 0 where
  pub past : List (World C)
  pub world : World C
  pub runs : RunsTo m view past world
  pub ever : (past : List (World C)) (w : World C) → RunsTo m view past w → (list : List (Entry C)) → Chain past w list → (k : ℕ) → m.safe (state_after m (take k list))

-- From this world of n servers there is a way back. Where the members of a quorum Q are up, and
-- have room for two more terms and entries, one of them can come to lead, and all of them to have
-- applied its whole log (`settles`). Where all servers have such room, so can they all, once those
-- that are down have restarted (`recovers`). (Raft, section 5.6, availability; nothing is said of
-- time.)
pub record IsNotStuck {S C : Type 0} (m : MachineSpec S C) (n : ℕ) (w : World C) : Type 0 where
  pub settles : (Q : ℕ → Bool) → Quorum n Q → AllUp n Q w → HasRoom n Q w → CanSettle m n Q w
  pub recovers : HasRoom n everybody w → CanRecover m n w

-- The value has a run, and where each of its runs leads the group is not stuck.
pub record RecoversEver {S C : Type 0} (m : MachineSpec S C) (view : WorldView S C) : Type 0 where
  pub past : List (World C)
  pub world : World C
  pub runs : RunsTo m view past world
  pub ever : (past : List (World C)) (w : World C) → RunsTo m view past w →
      IsNotStuck m (length view.servers) w

-- ---- machines

-- the machine of a server, while it is up: in the state after what it has committed
abbrev pub running_state : {S C : Type 0} → MachineSpec S C → Option (Raft C) → Option S
running_state m None = None
running_state m (Some s) = if is_up s.mode then Some (state_after m (take s.commit s.log)) else None

-- the machine of server i of a world; none where there is no such server, or it is down
abbrev pub machine_of : {S C : Type 0} → MachineSpec S C → World C → ℕ → Option S
machine_of m w i = running_state m (slice_get w.servers i)

-- One list of entries is the history of both states: each is the state after as many of its first
-- entries as the state counts. So the history of the one that counts fewer begins that of the
-- other, and two that count alike are the same.
pub record OneHistory {S C : Type 0} (m : MachineSpec S C) (a b : S) : Type 0 where
  pub list : List (Entry C)
  pub one : a ≡ state_after m (take (m.count a) list)
  pub other : b ≡ state_after m (take (m.count b) list)
