-- An open desk stays of its state.
use Rattle.std.proofs.Common.{◌≡◌, ℕ, Bool, true, false, cond, nat_lt, [], ◌∷◌, ◌++◌, length, map, Option, Some, None, Result, Ok, Err, refl, sym, subst, ap, ◌∙◌}
use Rattle.rows.specs.declared.evaluation.EvalId.{EvalId}
use Rattle.rows.specs.declared.evaluation.Evaluation.{Evaluation}
use Rattle.rows.specs.declared.plan.Plan.{Plan}
use Rattle.rows.specs.declared.refusal.Refusal.{Refusal}
use Rattle.rows.specs.declared.refusal.Refusal.TheVariants as refusals
use Rattle.fsm_model.specs.Words.{State, eval_of}
use Rattle.group_model.specs.Order.{Picked}
use Rattle.group_model.specs.Brokers.{after_gift}
use Rattle.group_model.specs.Brokers.{Broker, Given, Nothing, UsedUp, Gives, Acked, Free, no_tasks, deliver, set_mark, outstanding, is_outstanding, with_ack, with_nack, HoldsPending, task_key}
use Rattle.group_model.specs.Expiry.{HeartbeatCount, HoldsHeld, heartbeat_count_of}
use Rattle.group_model.specs.HeartbeatCounts.{heartbeat_counted_of}
use Rattle.group_model.specs.Desks.{Desk, QueuedPlan}
use Rattle.group_model.specs.Plans.{QUEUE, joins}
use Rattle.group_model.specs.Queues.{first_plan}
use Rattle.eval_broker.proofs.Following.{over_holds, keys_kept, gift_keeps}
use Rattle.expiry.proofs.Holding.{over_held, beat_stays as same_nodes}
use Rattle.leader.specs.OpenDesks.{OpenDesk, Answered, with_broker, on_lapse, once_given, once_outstanding, once_submitted, once_counted}
use Rattle.leader.specs.Verdicts.{once_picked}
use Rattle.leader.specs.Staying.{IsOver, OpensOver, DeliverStays, AckStays, NackStays, LapseStays, SubmitStays, PlanTurnStays, HeartbeatStays}

-- what a call leaves, also where it is refused
abbrev left_by : {A : Type 0} → OpenDesk → Answered A → OpenDesk
left_by o (Err r) = o
left_by o (Ok p) = p.1

stays : {A : Type 0} (s : State) (o new : OpenDesk) (a : A) (r : Answered A) → IsOver s (left_by o r) → r ≡ Ok (a, new) → IsOver s new
stays s o new a r h e = subst (IsOver s) (ap (left_by o) e) h

-- another broker with the same evaluations
same_tasks : (s : State) (o : OpenDesk) (b : Broker) → map task_key b.tasks ≡ map task_key o.desk.broker.tasks → IsOver s o → IsOver s (with_broker b o)
same_tasks s o b same h = record { pending = same ∙ h.pending; blocked = h.blocked; nodes_held = h.nodes_held }

freed : (s : State) (id : EvalId) (o : OpenDesk) → IsOver s o → IsOver s (with_broker (with_nack id o.desk.broker) o)
freed s id o h = same_tasks s o (with_nack id o.desk.broker) (keys_kept (set_mark Free) (λ t. refl) id o.desk.broker.tasks) h

once_left : (s : State) (o new : OpenDesk) (r : Result ℕ Refusal) → IsOver s o → IsOver s new → IsOver s (left_by o (once_outstanding new r))
once_left s o new (Err r) old h = old
once_left s o new (Ok wait) old h = h

pub opens_over : OpensOver
opens_over s t o h = record {
  pending = subst (λ (d : Desk). HoldsPending s.evals d.broker.tasks) (sym h.desk) (over_holds s.evals no_tasks);
  blocked = h.blocked;
  nodes_held = subst (λ (d : Desk). HoldsHeld s.nodes d.heartbeat_counts) (sym h.desk) (over_held s.nodes []);
}

pub deliver_stays : DeliverStays
deliver_stays s wait o d new h = stays s o new d _ (by (deliver o.term wait o.desk.broker) (gift_keeps o.term wait o.desk.broker)) where
  by : (g : Given) → map task_key (after_gift o.desk.broker g).tasks ≡ map task_key o.desk.broker.tasks → IsOver s (left_by o (once_given o g))
  by Nothing same = h
  by UsedUp same = h
  by (Gives what broker) same = same_tasks s o broker same h

pub ack_stays : AckStays
ack_stays s id token o a new h =
    let acked = with_broker (with_ack id o.desk.broker) o in
    stays s o new a _ (once_left s o acked (outstanding id token o.desk.broker) h (same_tasks s o (with_ack id o.desk.broker) (keys_kept (set_mark Acked) (λ t. refl) id o.desk.broker.tasks) h))

pub nack_stays : NackStays
nack_stays s id token o a new h =
    stays s o new a _ (once_left s o (with_broker (with_nack id o.desk.broker) o) (outstanding id token o.desk.broker) h (freed s id o h))

lapsed : (s : State) (id : EvalId) (o new : OpenDesk) (b : Bool) → IsOver s o → IsOver s new →
    IsOver s (left_by {A = Unit {0}} o (cond {A = Answered (Unit {0})} b (Ok (tt, new)) (Err refusals.NotOutstanding)))
lapsed s id o new true old h = h
lapsed s id o new false old h = old

pub lapse_stays : LapseStays
lapse_stays s id o a new h =
    stays s o new a (on_lapse id o) (lapsed s id o (with_broker (with_nack id o.desk.broker) o) (is_outstanding id o.desk.broker) h (freed s id o h))

-- a plan that joins the queue changes nothing else
joined : (s : State) (o : OpenDesk) (from : ℕ) (p : Plan) (e : Option Evaluation) → IsOver s o → IsOver s (left_by o (once_submitted o (joins from o.desk p e)))
joined s o from p None h = h
joined s o from p (Some e) h = by (nat_lt (length o.desk.plans) QUEUE) where
  by : (b : Bool) → IsOver s (left_by o (once_submitted o (cond b (Ok (record o.desk { plans = o.desk.plans ++ record { plan = p; priority = e.priority; from = from } ∷ [] })) (Err refusals.QueueFull))))
  by true = record { pending = h.pending; blocked = h.blocked; nodes_held = h.nodes_held }
  by false = h

pub submit_stays : SubmitStays
submit_stays s applied from p o a new h = stays s o new a _ (joined s o from p (eval_of p.eval applied) h)

pub plan_turn_stays : PlanTurnStays
plan_turn_stays s projected o j new h = stays s o new j _ (by (first_plan o.desk.plans)) where
  by : (p : Option (Picked QueuedPlan)) → IsOver s (once_picked projected o p).1
  by None = h
  by (Some p) = record { pending = h.pending; blocked = h.blocked; nodes_held = h.nodes_held }

pub beat_stays : HeartbeatStays
beat_stays s node o a new h = stays s o new a _ (by (heartbeat_count_of node o.desk.heartbeat_counts)) where
  by : (c : Option HeartbeatCount) → IsOver s (left_by o (once_counted o (heartbeat_counted_of node o.desk.heartbeat_counts c)))
  by None = h
  by (Some c) = record { pending = h.pending; blocked = h.blocked; nodes_held = same_nodes node o.desk.heartbeat_counts ∙ h.nodes_held }
