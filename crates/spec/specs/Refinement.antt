-- The runs of the group are runs of the specification.
use Rattle.std.specs.Prelude.{◌≡◌, ℕ, if◌then◌else◌, Option, Some, None, List, [], ◌∷◌, ◌++◌, length, map, slice_get}
use Rattle.rows.specs.declared.node.NodeSpec.{NodeSpec}
use Rattle.rows.specs.declared.evaluation.EvalId.{EvalId}
use Rattle.rows.specs.declared.allocation.AllocId.{AllocId}
use Rattle.raft_model.specs.Rafts.{is_up}
use Rattle.raft_model.specs.Chains.{Agree}
use Rattle.group_model.specs.Desks.{applied_state}
use Rattle.group_model.specs.Servers.{Server}
use Rattle.group_model.specs.Agents.{Agent}
use Rattle.group_model.specs.Worlds.{World, first}
use Rattle.group_safety.specs.Claims.{OneList}
use Rattle.group_safety.specs.Deliveries.{deliveries, token_in}
use Rattle.fsm_model.specs.Words.{State}
use Rattle.spec.specs.Spec.{SpecState, init, Actions}
use Rattle.spec.specs.Visible.{Visible, Behavior}

-- how many entries a server has applied
abbrev pub last_applied_by : Server → Option ℕ
last_applied_by s = if is_up s.raft.mode then Some s.raft.commit else None

abbrev pub started_by : Agent → List AllocId
started_by x = x.started

-- What a world shows of a state: how much each server has applied, and that its first entries are
-- the log's; what each client ever started; what is outstanding at the desks of leaders; and what
-- was delivered.
pub record Shows (w : World) (g : SpecState) : Type 0 where
  pub servers : map last_applied_by w.servers ≡ g.last_applied
  pub entries : (i : ℕ) (s : Server) →
      slice_get w.servers i ≡ Some s → Agree s.raft.commit s.raft.log g.log
  pub clients : map started_by w.clients ≡ g.started
  pub outstanding : (term : ℕ) (eval : EvalId) →
      token_in w.servers term eval ≡ g.outstanding term eval
  pub delivered : deliveries w.sent ≡ g.delivered

-- The worlds of a run, one by one, show states of the specification: the first one its first state,
-- and each next one a state to which its actions lead. The last one shows g.
pub data Refines (n : ℕ) (nodes : List NodeSpec) : List World → World → SpecState → Type 0 where
  begins : Shows (first n nodes) (init n (length nodes)) →
      Refines n nodes [] (first n nodes) (init n (length nodes))
  moves : {past : List World} {w : World} {g : SpecState} (next : World) (h : SpecState) →
      Refines n nodes past w g → Actions g h → Shows next h →
      Refines n nodes (past ++ w ∷ []) next h

-- A run is one of the specification, whose log is the run's one list, all of which is committed in
-- the end.
pub record RefinesSpec (n : ℕ) (nodes : List NodeSpec) (past : List World) (w : World) : Type 0 where
  pub last : SpecState
  pub refines : Refines n nodes past w last
  pub list : OneList past w last.log
  pub committed : last.committed ≡ length last.log

-- what is visible of a world: of a server that is up the state that it has applied
abbrev pub state_shown : Server → Option State
state_shown s = if is_up s.raft.mode then Some (applied_state s.raft) else None

abbrev pub visible_in : World → Visible
visible_in w = record {
  states = map state_shown w.servers;
  started = map started_by w.clients;
  delivered = deliveries w.sent;
}

-- what is visible of a run is what the specification shows
abbrev pub ShowsSpec : ℕ → List NodeSpec → List World → World → Type 0
ShowsSpec n nodes past w =
    (last : SpecState) × Behavior n (length nodes) (map visible_in (past ++ w ∷ [])) last
