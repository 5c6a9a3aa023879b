-- What a server makes of a request or a turn is told by the answer of the desk's call.
use Rattle.std.proofs.Common.{◌≡◌, ℕ, Bool, true, false, cond, Option, Some, None, List, [], ◌∷◌, Result, Ok, Err, refl, ap, ◌∙◌}
use Rattle.std.specs.Prelude.{nat_eq, option_map}
use Rattle.rows.specs.declared.allocation.AllocId.{AllocId}
use Rattle.rows.specs.declared.node.Node.{Node}
use Rattle.rows.specs.declared.evaluation.EvalId.{EvalId}
use Rattle.rows.specs.declared.evaluation.Evaluation.{Evaluation}
use Rattle.rows.specs.declared.command.Command.{Command}
use Rattle.rows.specs.declared.command.Command.TheVariants as commands
use Rattle.rows.specs.declared.command.StatusChange.TheVariants as changes
use Rattle.rows.specs.declared.refusal.Refusal.{Refusal}
use Rattle.rows.specs.declared.refusal.Refusal.TheVariants as refusals
use Rattle.rows.specs.declared.worker.AskedRequest.TheVariants as asked
use Rattle.rows.specs.Keys.{eval_id}
use Rattle.rows.specs.Changes.{change_of}
use Rattle.raft_model.specs.Steps.{admission_refusal}
use Rattle.fsm_model.specs.ClusterMachine.{cluster_spec}
use Rattle.fsm_model.specs.Words.{State, node_of}
use Rattle.group_model.specs.Order.{Picked}
use Rattle.group_model.specs.Brokers.{Given, Nothing, UsedUp, Gives, Task, task_id, deliver, outstanding, is_outstanding, with_ack, with_nack}
use Rattle.group_model.specs.Blocked.{first_due}
use Rattle.group_model.specs.Expiry.{HeartbeatCount, heartbeat_count_of}
use Rattle.group_model.specs.HeartbeatCounts.{heartbeat_counted_of, expiry_refusal_of}
use Rattle.group_model.specs.Drains.{is_done, next_moves_of}
use Rattle.group_model.specs.Desks.{Desk, QueuedPlan, applied_state, projected_state}
use Rattle.group_model.specs.Inputs.{AskPropose, rests, asks}
use Rattle.group_model.specs.Plans.{submitted, judged, turn_of, after_accept}
use Rattle.group_model.specs.Queues.{first_plan}
use Rattle.group_model.specs.DeskTurns.{expiry_command, expire_of, migrates, drains_by, drain_turn_of, free_turn_of, reap_of}
use Rattle.group_model.specs.ClientRequests.{heartbeats_at}
use Rattle.group_model.specs.WorkerRequests.{refuses, takes_given, submits_of, finishes_of, finishes_by, nacks_of}
use Rattle.leader.specs.OpenDesks.{OpenDesk, with_broker, once_given, once_submitted, once_outstanding, once_counted, unless_refused, migrate_if_any, drain_command_of}
use Rattle.leader.specs.Verdicts.{verdict_for, once_picked}
use Rattle.leader.specs.GroupActs.{take_act, submit_act, nack_act, finish_act, proposes_at, lapse_act, expire_act, drain_act, heartbeat_act, judged_act, status_act}
use Rattle.leader.specs.GroupActs.{TakesByDeliver, SubmitsBySubmit, NacksByNack, FinishesByAck, LapsesByLapse, PlanTurnsByVerdict, FreesByFreeTurn, ReapsByReap, HeartbeatsByBeat, ExpiresByExpire, DrainsByDrainTurn}
use Rattle.leader.proofs.Turning.{freed_of_state}
use Rattle.drain.proofs.Moving.{own_number}

pub takes_by_deliver : TakesByDeliver
takes_by_deliver me from wait o = by (deliver o.term wait o.desk.broker) where
  by : (g : Given) → takes_given me from o.desk g ≡ take_act me from o (once_given o g)
  by Nothing = refl
  by UsedUp = refl
  by (Gives what broker) = refl

pub submits_by_submit : SubmitsBySubmit
submits_by_submit me from applied p o = by (submitted from applied o.desk p) where
  by : (r : Result Desk Refusal) → submits_of me from p (Some o.desk) r ≡ submit_act me from p o (once_submitted o r)
  by (Err r) = refl
  by (Ok d) = refl

pub nacks_by_nack : NacksByNack
nacks_by_nack me from id token o = by (outstanding id token o.desk.broker) where
  by : (r : Result ℕ Refusal) → nacks_of me from id token o.desk r ≡ nack_act me from id token o (once_outstanding (with_broker (with_nack id o.desk.broker) o) r)
  by (Err r) = refl
  by (Ok wait) = refl

pub finishes_by_ack : FinishesByAck
finishes_by_ack me from s id token outcome o = by (outstanding id token o.desk.broker) where
  new : OpenDesk
  new = with_broker (with_ack id o.desk.broker) o

  at : (c : Command) (r : Option Refusal) → finishes_by me from id token c o.desk r ≡ proposes_at new c (refuses me from (asked.Finish id token) (Some o.desk)) r
  at c None = refl
  at c (Some r) = refl

  by : (r : Result ℕ Refusal) → finishes_of me s from id token outcome o.desk r
      ≡ finish_act (refuses me from (asked.Finish id token) (Some o.desk)) s (commands.EvalStatus id (change_of outcome)) (once_outstanding new r)
  by (Err r) = refl
  by (Ok wait) = at (commands.EvalStatus id (change_of outcome)) (admission_refusal cluster_spec s (commands.EvalStatus id (change_of outcome)))

pub lapses_by_lapse : LapsesByLapse
lapses_by_lapse id o = by (is_outstanding id o.desk.broker) where
  new : OpenDesk
  new = with_broker (with_nack id o.desk.broker) o

  by : (b : Bool) → cond b (Ok (rests (Some new.desk))) (Err refusals.NotOutstanding) ≡ lapse_act (cond b (Ok (tt, new)) (Err refusals.NotOutstanding))
  by true = refl
  by false = refl

pub plan_turns_by_verdict : PlanTurnsByVerdict
plan_turns_by_verdict me s o = by (first_plan o.desk.plans) where
  at : (d : Desk) (w : QueuedPlan) (r : Result ℕ Refusal) → judged me s d w r ≡ after_accept me s d w (verdict_for (projected_state s) w.plan r)
  at d w (Err r) = refl
  at d w (Ok wait) = refl

  by : (p : Option (Picked QueuedPlan)) → turn_of me s o.desk p ≡ judged_act me s (once_picked (projected_state s) o p).1.desk (once_picked (projected_state s) o p).0
  by None = refl
  by (Some p) = at (record o.desk { plans = p.others }) p.one (outstanding p.one.plan.eval p.one.plan.token o.desk.broker)

pub frees_by_free_turn : FreesByFreeTurn
frees_by_free_turn s o over =
    ap (λ (id : Option EvalId). status_act changes.Pending o.desk (Ok id)) (freed_of_state (applied_state s) (projected_state s) o _ over refl)
    ∙ by (first_due (applied_state s) (projected_state s)) where
      by : (e : Option Evaluation) → status_act changes.Pending o.desk (Ok (option_map eval_id e)) ≡ Ok (free_turn_of o.desk e)
      by None = refl
      by (Some e) = refl

pub reaps_by_reap : ReapsByReap
reaps_by_reap s o = by _ where
  by : (t : Option Task) → status_act changes.Failed o.desk (Ok (option_map task_id t)) ≡ Ok (reap_of o.desk t)
  by None = refl
  by (Some t) = refl

pub heartbeats_by_beat : HeartbeatsByBeat
heartbeats_by_beat me client d o = by (heartbeat_count_of client o.desk.heartbeat_counts) where
  by : (c : Option HeartbeatCount) → heartbeats_at me client o.desk c ≡ heartbeat_act me client o (once_counted o (heartbeat_counted_of client o.desk.heartbeat_counts c))
  by None = refl
  by (Some c) = refl

pub expires_by_expire : ExpiresByExpire
expires_by_expire s node beats o = by (heartbeat_count_of node o.desk.heartbeat_counts) where
  command : Command
  command = expiry_command (applied_state s) node

  at : (b : Bool) → cond b (Ok (asks (AskPropose command) (Some o.desk))) (Err refusals.StaleExpiry)
      ≡ expire_act o.desk (unless_refused command (cond b None (Some refusals.StaleExpiry)))
  at true = refl
  at false = refl

  by : (c : Option HeartbeatCount) → expire_of o.desk command beats c ≡ expire_act o.desk (unless_refused command (expiry_refusal_of beats c))
  by None = refl
  by (Some c) = at (nat_eq c.beats beats)

pub drains_by_drain_turn : DrainsByDrainTurn
drains_by_drain_turn s node o = by (node_of node projected) refl where
  projected : State
  projected = projected_state s

  at : (ids : List AllocId) (b : Bool) → cond b (Ok (asks (AskPropose (commands.DrainDone node)) (Some o.desk))) (Ok (migrates o.desk ids))
      ≡ drain_act o.desk (Ok (cond b (Some (commands.DrainDone node)) (migrate_if_any ids)))
  at ids true = refl
  at [] false = refl
  at (id ∷ ids) false = refl

  told : (n : Node) → n.number ≡ node → (r : Result (List AllocId) Refusal) → drains_by o.desk projected n r ≡ drain_act o.desk (drain_command_of projected node r)
  told n same (Err r) = refl
  told n same (Ok ids) =
      ap (λ k. cond (is_done k projected) (Ok (asks (AskPropose (commands.DrainDone k)) (Some o.desk))) (Ok (migrates o.desk ids))) same
      ∙ at ids (is_done node projected)

  by : (m : Option Node) → node_of node projected ≡ m → drain_turn_of o.desk projected m ≡ drain_act o.desk (drain_command_of projected node (next_moves_of projected m))
  by None e = refl
  by (Some n) e = told n (own_number node n projected e) (next_moves_of projected (Some n))
