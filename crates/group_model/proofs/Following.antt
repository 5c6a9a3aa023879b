-- The broker and the counts of heartbeats, at one row.
use Rattle.std.proofs.Common.{◌≡◌, ℕ, T, List, [], ◌∷◌, map, filter, Option, Some, None, refl, sym, ap, subst, ◌∙◌}
use Rattle.std.specs.List.{AllByRecursion}
use Rattle.std.specs.Ordering.{nat_cmp}
use Rattle.std.proofs.lemmas.Cmp.{nat_cmp_total}
use Rattle.rows.specs.declared.evaluation.EvalId.{EvalId}
use Rattle.rows.specs.declared.evaluation.Evaluation.{Evaluation}
use Rattle.rows.specs.declared.node.Node.{Node}
use Rattle.rows.specs.Keys.{eval_cmp, eval_id, node_number}
use Rattle.rows.proofs.KeyLaws.{eval_cmp_total}
use Rattle.rows.specs.Rising.{is_rising}
use Rattle.fsm_tables.specs.Rows.{put}
use Rattle.fsm_model.specs.Words.{is_pending}
use Rattle.group_model.specs.Brokers.{Task, Key, task_id, task_key, eval_key, task_of, carry, tasks_over, tasks_with, HoldsPending}
use Rattle.group_model.specs.Expiry.{HeartbeatCount, count_node, heartbeat_count_of, is_held, counted_node, heartbeat_counts_over, HoldsHeld}
use Rattle.group_model.specs.OneRow.{BrokerFollows, CountsFollow}
use Rattle.group_model.proofs.KeptRows.{With, all_found, rising_back, rising_kept, one_row}

-- ---- the broker

carried_id : (e : Evaluation) (o : Option Task) → task_id (carry e o) ≡ e.id
carried_id e None = refl
carried_id e (Some t) = refl

-- a task with the evaluation's key is what it carries
carried_is : (e : Evaluation) (t : Task) → eval_key e ≡ task_key t → carry e (Some t) ≡ t
carried_is e t k = λ i. record { id = (k i).id; job = (k i).job; priority = (k i).priority; deliveries = t.deliveries; mark = t.mark }

module _ (find : EvalId → Option Task) where
  carried : (es : List Evaluation) (ts : List Task) → map task_key ts ≡ map eval_key es → AllByRecursion (λ t. find (task_id t) ≡ Some t) ts → map (λ e. carry e (find e.id)) es ≡ ts
  carried [] [] k a = refl
  carried [] (t ∷ ts) k a = absurd (cc)
  carried (e ∷ es) [] k a = absurd (cc)
  carried (e ∷ es) (t ∷ ts) k a =
      let here : eval_key e ≡ task_key t = heads k in
      let found : find e.id ≡ Some t = ap (λ (x : Key). find x.id) here ∙ a.0 in
      λ i. (ap (carry e) found ∙ carried_is e t here) i ∷ carried es ts (tails k) a.1 i
    where
      heads : task_key t ∷ map task_key ts ≡ eval_key e ∷ map eval_key es → eval_key e ≡ task_key t
      heads k = cc

      tails : task_key t ∷ map task_key ts ≡ eval_key e ∷ map eval_key es → map task_key ts ≡ map eval_key es
      tails k = cc

module _ (es : List Evaluation) (ts : List Task) (rising : T (is_rising eval_cmp eval_id es)) (holds : HoldsPending es ts) where
  tasks_rise : T (is_rising eval_cmp task_id ts)
  tasks_rise =
      rising_back eval_cmp task_id (λ (k : Key). k.id) task_key (λ t. refl) ts
      (subst (λ ks. T (is_rising eval_cmp (λ (k : Key). k.id) ks)) (sym holds) (rising_kept eval_cmp eval_id (λ (k : Key). k.id) eval_key (λ e. refl) (λ e. is_pending e.status) es rising))

  -- over the rows that they hold the tasks stay
  pub tasks_stay : tasks_over es ts ≡ ts
  tasks_stay = carried (λ id. task_of id ts) (filter (λ e. is_pending e.status) es) ts holds (all_found eval_cmp task_id eval_cmp_total ts tasks_rise)

  tasks_follow : (e : Evaluation) → tasks_over (put eval_cmp eval_id e es) ts ≡ tasks_with e ts
  tasks_follow e =
      one_row eval_cmp eval_id task_id (λ x. carry x (task_of x.id ts)) (λ x. carried_id x (task_of x.id ts)) (λ x. is_pending x.status) eval_cmp_total e es rising
      ∙ ap (λ l. With eval_cmp eval_id task_id (λ x. carry x (task_of x.id ts)) (λ x. carried_id x (task_of x.id ts)) (λ x. is_pending x.status) e l) tasks_stay

pub broker_follows : BrokerFollows
broker_follows es e b rising holds = λ i. record b { tasks = tasks_follow es b.tasks rising holds e i }

-- ---- heartbeats

counted_is : (n : Node) (c : HeartbeatCount) → node_number n ≡ count_node c → counted_node n (Some c) ≡ c
counted_is n c k = λ i. record { node = k i; beats = c.beats }

module _ (find : ℕ → Option HeartbeatCount) where
  counted : (ns : List Node) (cs : List HeartbeatCount) → map count_node cs ≡ map node_number ns → AllByRecursion (λ c. find (count_node c) ≡ Some c) cs → map (λ n. counted_node n (find n.number)) ns ≡ cs
  counted [] [] k a = refl
  counted [] (c ∷ cs) k a = absurd (cc)
  counted (n ∷ ns) [] k a = absurd (cc)
  counted (n ∷ ns) (c ∷ cs) k a =
      let here : node_number n ≡ count_node c = heads k in
      let found : find n.number ≡ Some c = ap find here ∙ a.0 in
      λ i. (ap (counted_node n) found ∙ counted_is n c here) i ∷ counted ns cs (tails k) a.1 i
    where
      heads : count_node c ∷ map count_node cs ≡ node_number n ∷ map node_number ns → node_number n ≡ count_node c
      heads k = cc

      tails : count_node c ∷ map count_node cs ≡ node_number n ∷ map node_number ns → map count_node cs ≡ map node_number ns
      tails k = cc

module _ (ns : List Node) (cs : List HeartbeatCount) (rising : T (is_rising nat_cmp node_number ns)) (holds : HoldsHeld ns cs) where
  counts_rise : T (is_rising nat_cmp count_node cs)
  counts_rise =
      rising_back nat_cmp count_node (λ (k : ℕ). k) count_node (λ c. refl) cs
      (subst (λ ks. T (is_rising nat_cmp (λ (k : ℕ). k) ks)) (sym holds) (rising_kept nat_cmp node_number (λ (k : ℕ). k) node_number (λ n. refl) (λ n. is_held n.status) ns rising))

  -- over the nodes that they are of the counts stay
  pub counts_stay : heartbeat_counts_over ns cs ≡ cs
  counts_stay = counted (λ n. heartbeat_count_of n cs) (filter (λ n. is_held n.status) ns) cs holds (all_found nat_cmp count_node nat_cmp_total cs counts_rise)

pub counts_follow : CountsFollow
counts_follow ns n cs rising holds =
    one_row nat_cmp node_number count_node (λ x. counted_node x (heartbeat_count_of x.number cs)) (λ x. refl) (λ x. is_held x.status) nat_cmp_total n ns rising
    ∙ ap (λ l. With nat_cmp node_number count_node (λ x. counted_node x (heartbeat_count_of x.number cs)) (λ x. refl) (λ x. is_held x.status) n l) (counts_stay ns cs rising holds)
