-- What a leader's timers look at.
use Rattle.std.specs.Prelude.{◌≡◌, ℕ, true, Option, Some, None, List, [], option_map}
use Rattle.std.specs.List.{filter_map}
use Rattle.rows.specs.declared.node.Node.{Node}
use Rattle.rows.specs.declared.node.DrainMode.{DrainMode}
use Rattle.rows.specs.declared.node.DrainMode.TheVariants as drains
use Rattle.rows.specs.declared.evaluation.Evaluation.{Evaluation}
use Rattle.rows.specs.declared.token.Token.{Token}
use Rattle.fsm_model.specs.Words.{State}
use Rattle.raft_model.specs.Rafts.{is_up}
use Rattle.eval_broker.specs.Answers.{pair_of}
use Rattle.group_model.specs.Brokers.{Broker, task_of}
use Rattle.group_model.specs.Desks.{applied_state}
use Rattle.group_model.specs.Expiry.{HeartbeatCount, heartbeat_count_of}
use Rattle.group_model.specs.Servers.{Server}
use Rattle.leader.specs.OpenDesks.{OpenDesk}
use Rattle.server.specs.ServerViews.{ServerView, RefinesServer}
use Rattle.timers.specs.ServerTimes.{Sights}
use Rattle.timers.specs.declared.watch.Sighting.{Sighting}
use Rattle.timers.specs.declared.watch.Sighting.TheVariants as sightings

-- a node whose heartbeats are counted, with how many there were
abbrev pub heard_node : List HeartbeatCount → Node → Option Sighting
heard_node counts row =
    option_map (λ (c : HeartbeatCount). sightings.Node row.number c.beats) (heartbeat_count_of row.number counts)

-- an evaluation that a worker has, with its token
abbrev pub delivered : Broker → Evaluation → Option Sighting
delivered broker row =
    option_map (λ (pair : Token × ℕ). sightings.Delivery row.id pair.0) (pair_of (task_of row.id broker.tasks))

-- a node that is drained
abbrev pub drained_as : ℕ → DrainMode → Option ℕ
drained_as node drains.Off = None
drained_as node _ = Some node

abbrev pub drained : Node → Option ℕ
drained row = drained_as row.number row.drain

-- of a state, by an open desk; by a closed one nothing
abbrev pub sights_of : State → Option OpenDesk → Sights
sights_of state None = record { nodes = []; deliveries = []; drained = [] }
sights_of state (Some o) = record {
  nodes = filter_map (heard_node o.desk.heartbeat_counts) state.nodes;
  deliveries = filter_map (delivered o.desk.broker) state.evals;
  drained = filter_map drained state.nodes;
}

-- the state is the one that is applied
abbrev pub Sees : ServerView → Sights → Type 0
Sees v sights =
    (s : Server) → RefinesServer v s → is_up s.raft.mode ≡ true → sights ≡ sights_of (applied_state s.raft) v.desk
