-- What holds of every group that was reached. Moments, and the servers and logs at them, are those
-- of the value's runs.
use Rattle.std.specs.Prelude.{◌≡◌, ℕ, ◌<◌, Bool, Option, List, length}
use Rattle.rows.specs.declared.command.Command.{Command}
use Rattle.machine_model.specs.declared.entry.Entry.{Entry}
use Rattle.raft_model.specs.Quorums.{Quorum}
use Rattle.raft_safety.specs.Claims.{IsGreatestCommit}
use Rattle.raft_progress.specs.Recovery.{AllUp, HasRoom, everybody}
use Rattle.fsm_model.specs.Words.{State}
use Rattle.fsm_model.specs.ClusterMachine.{cluster_spec}
use Rattle.group_model.specs.Inputs as inputs
use Rattle.group_model.specs.Agents as agents
use Rattle.group_model.specs.Worlds.{World, Event, Deliver, AtServer, AtClient, raft_of}
use Rattle.group_safety.specs.Claims.{OneList, SafeStates, PlansAreBacked, StartsArePlaced, logs}
use Rattle.group_progress.specs.GroupRecovery.{GroupCanSettle, GroupCanRecover}
use Rattle.world.specs.Claims.{machine_of}
use Rattle.world.specs.GroupView.{GroupView, GroupRunsTo}

-- The value has a run, and there is one list, of length `chain`: in each of its runs what a server
-- had applied is the beginning of that list, at every moment; no two servers ever led one term; and
-- whoever leads a term has in its log what a server in a term up to that one had applied by then.
-- (Raft, Figure 3, election safety, leader completeness and state machine safety.)
pub record OneGroupList (view : GroupView) : Type 0 where
  pub past : List World
  pub world : World
  pub runs : GroupRunsTo view past world
  pub list : List (Entry Command)
  pub long : length list ≡ view.chain
  pub ever : (past : List World) (w : World) → GroupRunsTo view past w → OneList past w list

-- The value has a run, and in each of its runs the state after each first part of that list is
-- safe: no node's use is past its size, and no two live allocations are of one name.
pub record SafeGroupStates (view : GroupView) : Type 0 where
  pub past : List World
  pub world : World
  pub runs : GroupRunsTo view past world
  pub ever : (past : List World) (w : World) → GroupRunsTo view past w → (list : List (Entry Command)) → OneList past w list → SafeStates list

-- The value has a run, and in each of its runs each plan of that list was appended by a plan turn
-- of its term's leader, while its evaluation was outstanding under its token at that leader's desk.
pub record BackedPlans (view : GroupView) : Type 0 where
  pub past : List World
  pub world : World
  pub runs : GroupRunsTo view past world
  pub ever : (past : List World) (w : World) → GroupRunsTo view past w → (list : List (Entry Command)) → OneList past w list → PlansAreBacked view.trace past w list

-- The value has a run, and in each of its runs whatever a client ever started was placed on its
-- node by a plan of that list, which some server had applied by then.
pub record PlacedStarts (view : GroupView) : Type 0 where
  pub past : List World
  pub world : World
  pub runs : GroupRunsTo view past world
  pub ever : (past : List World) (w : World) → GroupRunsTo view past w → (list : List (Entry Command)) → OneList past w list → StartsArePlaced past w list

-- The headline, of one list: through every list of deliveries, losses, repeats, elections,
-- expiries, crashes and restarts, one list of entries exists of which every running server's state,
-- at every moment, is some first entries applied; in each such state no node is oversubscribed and
-- no allocation name live twice; each of its plans was appended under its leader's outstanding
-- token; clients start only what it places on them.
pub record GroupHeadline (view : GroupView) : Type 0 where
  pub past : List World
  pub world : World
  pub runs : GroupRunsTo view past world
  pub list : List (Entry Command)
  pub long : length list ≡ view.chain
  pub chain : (past : List World) (w : World) → GroupRunsTo view past w → OneList past w list
  pub safe : SafeStates list
  pub backed : (past : List World) (w : World) → GroupRunsTo view past w → PlansAreBacked view.trace past w list
  pub placed : (past : List World) (w : World) → GroupRunsTo view past w → StartsArePlaced past w list

-- From this group of n servers there is a way back. Where the members of a quorum Q are up, and
-- have room for two more terms and entries, one of them can come to lead, with an open desk, and
-- all of them to have applied its whole log (`settles`). Where all servers have such room, so can
-- they all, once those that are down have restarted (`recovers`). (Raft, section 5.6, availability;
-- nothing is said of time.)
pub record IsGroupNotStuck (n : ℕ) (w : World) : Type 0 where
  pub settles : (Q : ℕ → Bool) → Quorum n Q → AllUp n Q (raft_of w) → HasRoom n Q (raft_of w) →
      GroupCanSettle n Q w
  pub recovers : HasRoom n everybody (raft_of w) → GroupCanRecover n w

-- The value has a run, and where each of its runs leads the group is not stuck.
pub record GroupRecoversEver (view : GroupView) : Type 0 where
  pub past : List World
  pub world : World
  pub runs : GroupRunsTo view past world
  pub ever : (past : List World) (w : World) → GroupRunsTo view past w →
      IsGroupNotStuck (length view.servers) w

-- the replicated state of server i of a world, after all that it has applied; none where there is no
-- such server, or it is down
abbrev pub state_of : World → ℕ → Option State
state_of w i = machine_of cluster_spec (raft_of w) i

-- the greatest number of entries that any server had applied at some moment, in each of its runs
abbrev pub IsGreatestEver : GroupView → ℕ → Type 0
IsGreatestEver view n = (past : List World) (w : World) → GroupRunsTo view past w → IsGreatestCommit (logs past) (raft_of w) n

-- An event that a group of which so many messages were sent may have taken: one of them comes to
-- its receiver, or an actor takes an input of its own, which is never an arrival.
abbrev pub IsTraced : ℕ → Event → Type 0
IsTraced sent (Deliver place) = place < sent
IsTraced sent (AtServer server (inputs.Arrives message)) = ⊥
IsTraced sent (AtServer server input) = Unit {0}
IsTraced sent (AtClient client (agents.Arrives from response)) = ⊥
IsTraced sent (AtClient client input) = Unit {0}
