-- A desk whose parts followed an entry has followed it.
use Rattle.std.proofs.Common.{◌≡◌, List, Result, Ok, Err, refl}
use Rattle.std.specs.Prelude.{OnOk}
use Rattle.rows.specs.declared.command.Command.{Command}
use Rattle.fsm_model.specs.Words.{State}
use Rattle.group_model.specs.Brokers.{Broker, broker_over}
use Rattle.group_model.specs.Expiry.{HeartbeatCount, heartbeat_counts_over}
use Rattle.blocked.specs.Rooms.{BlockedRows, blocked_of}
use Rattle.leader.specs.Following.{AreOf}
use Rattle.leader.specs.OpenDesks.{OpenDesk}
use Rattle.leader.specs.Staying.{WasOver, Follows}

followed : (c : Command) (s : State) (old : OpenDesk) (broker : Broker) (held : BlockedRows) (counts : List HeartbeatCount) →
    (WasOver c s old → broker ≡ broker_over s.evals old.desk.broker) →
    (WasOver c s old → counts ≡ heartbeat_counts_over s.nodes old.desk.heartbeat_counts) →
    (WasOver c s old → AreOf s broker (blocked_of held) counts) →
    Follows c s old (record { desk = record { broker = broker; plans = old.desk.plans; heartbeat_counts = counts }; blocked = held; term = old.term })
followed c s old broker held counts tasks beats all = record {
  term = refl;
  plans = refl;
  desk = λ was. record {
    desk = λ i. record { broker = tasks was i; plans = old.desk.plans; heartbeat_counts = beats was i };
    over = all was;
  };
}

pub followed_if_ok : {X F : Type 0} (r : Result X F) (c : Command) (s : State) (old : OpenDesk) (broker : Broker) (held : BlockedRows) (counts : List HeartbeatCount) →
    OnOk r (WasOver c s old → broker ≡ broker_over s.evals old.desk.broker) →
    OnOk r (WasOver c s old → counts ≡ heartbeat_counts_over s.nodes old.desk.heartbeat_counts) →
    OnOk r (WasOver c s old → AreOf s broker (blocked_of held) counts) →
    OnOk r (Follows c s old (record { desk = record { broker = broker; plans = old.desk.plans; heartbeat_counts = counts }; blocked = held; term = old.term }))
followed_if_ok (Ok x) c s old broker held counts tasks beats all = followed c s old broker held counts tasks beats all
followed_if_ok (Err e) c s old broker held counts tasks beats all = tasks
