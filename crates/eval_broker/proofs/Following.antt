-- After every list of calls a broker's tasks are the pending evaluations of the applied state.
use Rattle.std.proofs.Common.{◌≡◌, ℕ, Bool, true, false, cond, T, List, [], ◌∷◌, map, Option, Some, None, refl, sym, subst, ◌∙◌}
use Rattle.std.specs.Prelude.{filter, nat_lt}
use Rattle.rows.specs.declared.evaluation.EvalId.{EvalId}
use Rattle.rows.specs.declared.evaluation.Evaluation.{Evaluation}
use Rattle.rows.specs.Keys.{eval_cmp, eval_id}
use Rattle.rows.proofs.KeyLaws.{eval_cmp_total}
use Rattle.rows.specs.Rising.{is_rising}
use Rattle.raft_model.specs.Logs.{MAX}
use Rattle.fsm_tables.specs.Rows.{put}
use Rattle.fsm_tables.proofs.RowLaws.{rising_put}
use Rattle.fsm_model.specs.Words.{same_eval, is_pending}
use Rattle.group_model.specs.Brokers.{Broker, Task, Free, Acked, no_tasks, task_key, eval_key, task_of, carry, broker_over, with_task, goes_out, set_mark, next_token, next, delivery_of, given, gives, deliver, UsedUp, Gives, HoldsPending}
use Rattle.group_model.proofs.Following.{broker_follows}
use Rattle.group_model.specs.Brokers.{after_gift}
use Rattle.eval_broker.specs.Calls.{Call, Changed, Next, Ack, Nack, Followed, after_call, after_calls, rebuilt, Holds, HoldsAfterCalls}

-- over any rows, whatever was there before
pub over_holds : (es : List Evaluation) (b : Broker) → HoldsPending es (broker_over es b).tasks
over_holds es b = go (filter (λ e. is_pending e.status) es) where
  carried_key : (e : Evaluation) (o : Option Task) → task_key (carry e o) ≡ eval_key e
  carried_key e None = refl
  carried_key e (Some t) = refl

  go : (xs : List Evaluation) → map task_key (map (λ e. carry e (task_of e.id b.tasks)) xs) ≡ map eval_key xs
  go [] = refl
  go (x ∷ xs) = λ i. carried_key x (task_of x.id b.tasks) i ∷ go xs i

-- a task that changes in rank keeps its evaluation
pub keys_kept : (f : Task → Task) → ((t : Task) → task_key (f t) ≡ task_key t) → (id : EvalId) (ts : List Task) → map task_key (with_task id f ts) ≡ map task_key ts
keys_kept f keeps id [] = refl
keys_kept f keeps id (t ∷ ts) = λ i. by (same_eval t.id id) i ∷ keys_kept f keeps id ts i where
  by : (b : Bool) → task_key (cond b (f t) t) ≡ task_key t
  by true = keeps t
  by false = refl

pub gift_keeps : (term wait : ℕ) (b : Broker) → map task_key (after_gift b (deliver term wait b)).tasks ≡ map task_key b.tasks
gift_keeps term wait b = by (next b.tasks) where
  used : (t : Task) (c : Bool) → map task_key (after_gift b (cond c (Gives (delivery_of term wait t b) (given term wait t b)) UsedUp)).tasks ≡ map task_key b.tasks
  used t true = keys_kept (goes_out (next_token term b) wait) (λ t. refl) t.id b.tasks
  used t false = refl

  by : (o : Option Task) → map task_key (after_gift b (gives term wait b o)).tasks ≡ map task_key b.tasks
  by None = refl
  by (Some t) = used t (nat_lt b.serial MAX)

record Kept (f : Followed) : Type 0 where
  holds : HoldsPending f.evals f.broker.tasks
  rising : T (is_rising eval_cmp eval_id f.evals)

after_one : (c : Call) (f : Followed) → Kept f → Kept (after_call c f)
after_one (Changed row) f k = record {
  holds = subst (λ (b : Broker). HoldsPending (put eval_cmp eval_id row f.evals) b.tasks) (broker_follows f.evals row f.broker k.rising k.holds) (over_holds (put eval_cmp eval_id row f.evals) f.broker);
  rising = rising_put eval_cmp eval_id eval_cmp_total row f.evals k.rising;
}
after_one (Next term wait) f k = record { holds = gift_keeps term wait f.broker ∙ k.holds; rising = k.rising }
after_one (Ack id) f k = record { holds = keys_kept (set_mark Acked) (λ t. refl) id f.broker.tasks ∙ k.holds; rising = k.rising }
after_one (Nack id) f k = record { holds = keys_kept (set_mark Free) (λ t. refl) id f.broker.tasks ∙ k.holds; rising = k.rising }

after_all : (cs : List Call) (f : Followed) → Kept f → Holds (after_calls cs f)
after_all [] f k = record { pending = k.holds; as_rebuilt = k.holds ∙ sym (over_holds f.evals no_tasks) }
after_all (c ∷ cs) f k = after_all cs (after_call c f) (after_one c f k)

pub holds_after_calls : HoldsAfterCalls
holds_after_calls calls evals rising = after_all calls (rebuilt evals) (record { holds = over_holds evals no_tasks; rising = rising })
