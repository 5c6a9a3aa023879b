-- What is promised of whatever processes of the group may have told.
use Rattle.std.specs.Prelude.{◌≡◌, ℕ, ◌-◌, ◌≤◌, true, Some, List, [], ◌∷◌, ◌++◌, slice_get}
use Rattle.rows.specs.declared.node.NodeSpec.{NodeSpec}
use Rattle.rows.specs.declared.allocation.AllocId.{AllocId}
use Rattle.rows.specs.declared.command.AcceptedPlace.{AcceptedPlace}
use Rattle.rows.specs.declared.command.AcceptedPlan.{AcceptedPlan}
use Rattle.rows.specs.declared.command.Command.{Command}
use Rattle.rows.specs.declared.command.Command.TheVariants as commands
use Rattle.machine_model.specs.declared.entry.Entry.{Entry}
use Rattle.raft_model.specs.Rafts.{Raft, is_leader}
use Rattle.raft_model.specs.Chains.{Agree}
use Rattle.group_model.specs.Servers.{Server}
use Rattle.group_model.specs.Agents.{Agent}
use Rattle.group_safety.specs.Claims.{OneList, SafeStates, PlansAreBacked}
use Rattle.group_model.specs.Messages.{GroupMessage}
use Rattle.processes.specs.Processes.{Process, up_with, System, Execution}
use Rattle.processes.specs.Claims.{RefinesWorld}
use Rattle.processes.specs.Loops.{Move, Each, ExecutionTo}
use Rattle.processes.specs.Groups.{Who, ServerOf, ClientOf, GroupActor, GroupServer, GroupClient}
use Rattle.processes.specs.Groups.{GroupStore, Item, group_actors, group_abstraction, stopped_by}

-- the plan that is this entry of the list places this id on node c
pub record PlacedInList (list : List (Entry Command)) (c : ℕ) (id : AllocId) : Type 0 where
  pub entry : Entry Command
  pub plan : AcceptedPlan
  pub place : AcceptedPlace
  pub one : 1 ≤ id.index
  pub entry_is : slice_get list (id.index - 1) ≡ Some entry
  pub plan_is : entry.command ≡ commands.Plan plan
  pub place_is : slice_get plan.places id.slot ≡ Some place
  pub on : place.node ≡ c

-- the later server has applied what the earlier one had, and maybe more behind it
abbrev pub KeepsApplied : Raft Command → Raft Command → Type 0
KeepsApplied earlier later =
    (earlier.commit ≤ later.commit) × Agree earlier.commit earlier.log later.log

-- of an execution: the systems before the last one, and the last one
module _ (n : ℕ) (nodes : List NodeSpec) (past : List (System (group_actors n nodes)))
    (g : System (group_actors n nodes)) where
  -- at moment k the process of server i is up, and its server is this
  pub record IsUpAs (k i : ℕ) (s : Server) : Type 0 where
    pub system : System (group_actors n nodes)
    pub system_is : slice_get (past ++ g ∷ []) k ≡ Some system
    pub store : GroupStore
    pub unsaved : List GroupActor
    pub held : List GroupMessage
    pub ready : List GroupMessage
    pub is : system.process (ServerOf i)
        ≡ up_with (group_actors n nodes) store (GroupServer s) unsaved held ready

  -- it is up at each moment from k to l: they are of one life
  abbrev pub LivesFromTo : ℕ → ℕ → ℕ → Type 0
  LivesFromTo i k l = (j : ℕ) → k ≤ j → j ≤ l → (s : Server) × IsUpAs j i s

  abbrev pub ServerTold : ℕ → ℕ → Server → Type 0
  ServerTold k i s = slice_get g.told k ≡ Some (record { who = ServerOf i; actor = GroupServer s })

  abbrev pub ClientTold : ℕ → ℕ → Agent → Type 0
  ClientTold k c x = slice_get g.told k ≡ Some (record { who = ClientOf c; actor = GroupClient x })

  -- There is one list of which each server that was told has applied a first part; the state after
  -- each first part of it is safe; no two tell that they lead one term; each id that a client ever
  -- started is placed on its node by the list; each plan of the list is backed; and what a server
  -- has applied stays so while its process lives, also what it has not stored yet.
  pub record KeepsPromises : Type 0 where
    pub list : List (Entry Command)
    pub agrees : (k i : ℕ) (s : Server) → ServerTold k i s → Agree s.raft.commit s.raft.log list
    pub safe : SafeStates list
    pub leaders : (k l i j : ℕ) (s t : Server) → ServerTold k i s → ServerTold l j t →
        is_leader s.raft.mode ≡ true → is_leader t.raft.mode ≡ true →
        s.raft.term ≡ t.raft.term → i ≡ j
    pub placed : (k c j : ℕ) (x : Agent) (id : AllocId) → ClientTold k c x →
        slice_get x.started j ≡ Some id → PlacedInList list c id
    -- in the world that they refine, of which it is the one list
    pub refines : RefinesWorld (group_actors n nodes) (group_abstraction n nodes) stopped_by past g
    pub one : OneList refines.past refines.world list
    pub backed : PlansAreBacked refines.events refines.past refines.world list
    pub stays : (k l i : ℕ) (s t : Server) → k ≤ l → IsUpAs k i s → IsUpAs l i t →
        LivesFromTo i k l → KeepsApplied s.raft t.raft

-- of each execution of n servers and these nodes' clients
abbrev pub EachExecution : ((n : ℕ) (nodes : List NodeSpec) →
    List (System (group_actors n nodes)) → System (group_actors n nodes) → Type 0) → Type 0
EachExecution Claim = (n : ℕ) (nodes : List NodeSpec)
    (past : List (System (group_actors n nodes))) (g : System (group_actors n nodes)) →
    Execution (group_actors n nodes) past g → Claim n nodes past g

-- the moves of processes of the group, in one order
abbrev pub GroupMoves : Type 0
GroupMoves = List (Who × Move GroupActor Item GroupMessage)

-- of whatever each process did alone, in each order in which all of it may happen
abbrev pub EachInterleaving : ((n : ℕ) (nodes : List NodeSpec) →
    GroupMoves → (Who → Process (group_actors n nodes)) → Type 0) → Type 0
EachInterleaving Claim = (n : ℕ) (nodes : List NodeSpec) (moves : GroupMoves)
    (process : Who → Process (group_actors n nodes)) →
    Each (group_actors n nodes) moves process → Claim n nodes moves process

-- there is an execution that came to them, and it keeps what is promised
abbrev pub KeepsHeadline : (n : ℕ) (nodes : List NodeSpec) →
    GroupMoves → (Who → Process (group_actors n nodes)) → Type 0
KeepsHeadline n nodes moves process =
    (e : ExecutionTo (group_actors n nodes) moves process) × KeepsPromises n nodes e.past e.last
