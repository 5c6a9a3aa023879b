-- The broker and the blocked evaluations, told of one row after the other.
use Rattle.std.proofs.Common.{◌≡◌, Bool, true, false, cond, T, List, [], ◌∷◌, map, filter, Option, Some, None, refl, sym, ap, subst, ◌∙◌}
use Rattle.std.specs.List.{AllByRecursion}
use Rattle.std.specs.Ordering.{is_eq}
use Rattle.rows.specs.declared.node.Node.{Node}
use Rattle.rows.specs.declared.evaluation.EvalId.{EvalId}
use Rattle.rows.specs.declared.evaluation.Evaluation.{Evaluation}
use Rattle.rows.specs.Keys.{eval_cmp, eval_id}
use Rattle.rows.specs.Rising.{is_rising}
use Rattle.rows.proofs.KeyLaws.{eval_cmp_total}
use Rattle.fsm_tables.specs.Rows.{row_of, put}
use Rattle.fsm_tables.proofs.RowLaws.{equal, some_same, row_of-put, rising_put}
use Rattle.fsm_tables.proofs.ReservedTables.{found_tied}
use Rattle.fsm_state.proofs.StepLaws.{row_tied}
use Rattle.fsm_model.specs.Words.{State, is_pending}
use Rattle.group_model.specs.Brokers.{Broker, Task, Key, task_id, task_key, eval_key, task_of, carry, tasks_over, broker_over, HoldsPending}
use Rattle.group_model.specs.Blocked.{blocked_over}
use Rattle.group_model.proofs.Following.{broker_follows, tasks_stay}
use Rattle.group_model.proofs.BlockedRows.{blocked_follow_evals}
use Rattle.group_model.proofs.KeptRows.{all_found}
use Rattle.leader.specs.Inner.Changes.{IsRowOf, broker_after, blocked_after}
use Rattle.leader.proofs.Tables.{puts, Else, else_put, puts_all, made_of, kept, row_of-kept}
use Rattle.leader.proofs.Holding.{held_at, of_rows}

abbrev pending : Evaluation → Bool
pending e = is_pending e.status

abbrev key_id : Key → EvalId
key_id k = k.id

abbrev find : EvalId → List Evaluation → Option Evaluation
find id evals = row_of eval_cmp eval_id id evals

carried_key : (e : Evaluation) (o : Option Task) → task_key (carry e o) ≡ eval_key e
carried_key e None = refl
carried_key e (Some t) = refl

carried_twice : (e f : Evaluation) (o : Option Task) → carry e (Some (carry f o)) ≡ carry e o
carried_twice e f None = refl
carried_twice e f (Some t) = refl

pub over_stays : (evals : List Evaluation) (b : Broker) → T (is_rising eval_cmp eval_id evals) → HoldsPending evals b.tasks → broker_over evals b ≡ b
over_stays evals b h of = λ i. record b { tasks = tasks_stay evals b.tasks h of i }

pub over_holds : (evals : List Evaluation) (b : Broker) → HoldsPending evals (broker_over evals b).tasks
over_holds evals b = of_rows eval_cmp eval_id task_id key_id eval_key task_key (λ e. refl) (λ t. refl) pending eval_cmp_total carry carried_key (λ e. task_of e.id b.tasks) evals

-- the task of an id, over rows
abbrev Carried : List Task → Option Evaluation → Option Task
Carried ts None = None
Carried ts (Some e) = cond (pending e) (Some (carry e (task_of e.id ts))) None

task_over : (id : EvalId) (evals : List Evaluation) (ts : List Task) → T (is_rising eval_cmp eval_id evals) → task_of id (tasks_over evals ts) ≡ Carried ts (find id evals)
task_over id evals ts h =
    row_of-kept eval_cmp eval_id task_id (λ e. carry e (task_of e.id ts)) (λ e. ap (λ (k : Key). k.id) (carried_key e (task_of e.id ts))) pending eval_cmp_total id evals h
    ∙ by (find id evals)
  where
    by : (m : Option Evaluation) → kept eval_cmp eval_id task_id (λ e. carry e (task_of e.id ts)) (λ e. ap (λ (k : Key). k.id) (carried_key e (task_of e.id ts))) pending eval_cmp_total m ≡ Carried ts m
    by None = refl
    by (Some e) = refl

-- ---- the broker, over one row more and then over all

module _ (e : Evaluation) (before after : List Evaluation) (ts : List Task) (rising : T (is_rising eval_cmp eval_id before)) (holds : HoldsPending before ts) (is_row : IsRowOf after e) where
  no_task : (r : Evaluation) (m : Option Evaluation) → find r.id before ≡ m → Carried ts m ≡ None → task_of r.id ts ≡ None
  no_task r m q none = nothing (task_of r.id ts) (held_at eval_cmp eval_id task_id key_id eval_key task_key (λ e. refl) (λ t. refl) pending eval_cmp_total r.id before ts rising holds ∙ ap (kept eval_cmp eval_id key_id eval_key (λ e. refl) pending eval_cmp_total) q ∙ untold m none) where
    untold : (m : Option Evaluation) → Carried ts m ≡ None → kept eval_cmp eval_id key_id eval_key (λ e. refl) pending eval_cmp_total m ≡ None
    untold None z = refl
    untold (Some x) z = elim (pending x) as (λ b. cond b (Some (carry x (task_of x.id ts))) None ≡ None → cond b (Some (eval_key x)) None ≡ None) [ true ↦ λ z. absurd cc | false ↦ λ z. refl ] z

    nothing : (o : Option Task) → made_of task_key o ≡ None → o ≡ None
    nothing None z = refl
    nothing (Some t) z = absurd cc

  -- a row that the broker was not told of in between
  from_before : (r : Evaluation) (m : Option Evaluation) → find r.id before ≡ m → carry r (Carried ts m) ≡ carry r (task_of r.id ts)
  from_before r None q = ap (carry r) (sym (no_task r None q refl))
  from_before r (Some x) q =
      elim (pending x) as (λ b. pending x ≡ b → carry r (cond b (Some (carry x (task_of x.id ts))) None) ≡ carry r (task_of r.id ts)) [
        | true ↦ λ p. carried_twice r x (task_of x.id ts) ∙ ap (carry r) (sym (row_tied eval_cmp task_id eval_cmp_total r.id x.id (found_tied eval_cmp eval_id eval_cmp_total r.id before x q) ts))
        | false ↦ λ p. ap (carry r) (sym (no_task r (Some x) q (ap (λ b. cond b (Some (carry x (task_of x.id ts))) None) p)))
      ] refl

  same_carry : (r : Evaluation) → IsRowOf after r → pending r ≡ true → carry r (task_of r.id (tasks_over (put eval_cmp eval_id e before) ts)) ≡ carry r (task_of r.id ts)
  same_carry r found pend =
      ap (carry r) (task_over r.id (put eval_cmp eval_id e before) ts (rising_put eval_cmp eval_id eval_cmp_total e before rising) ∙ ap (Carried ts) (row_of-put eval_cmp eval_id eval_cmp_total r.id e before))
      ∙ elim (is_eq (eval_cmp r.id e.id)) as (λ b. is_eq (eval_cmp r.id e.id) ≡ b → carry r (Carried ts (cond b (Some e) (find r.id before))) ≡ carry r (task_of r.id ts)) [
        | true ↦ λ q.
            let same : r ≡ e = some_same r e (sym found ∙ row_tied eval_cmp eval_id eval_cmp_total r.id e.id (equal _ (subst T (sym q) tt)) after ∙ is_row) in
            ap (λ x. carry r (Carried ts (Some x))) (sym same)
            ∙ ap (λ b. carry r (cond b (Some (carry r (task_of r.id ts))) None)) pend
            ∙ carried_twice r r (task_of r.id ts)
        | false ↦ λ q. from_before r (find r.id before) refl
      ] refl

  same_tasks : (rs : List Evaluation) → AllByRecursion (IsRowOf after) rs → map (λ r. carry r (task_of r.id (tasks_over (put eval_cmp eval_id e before) ts))) (filter pending rs) ≡ map (λ r. carry r (task_of r.id ts)) (filter pending rs)
  same_tasks [] a = refl
  same_tasks (r ∷ rs) a =
      elim (pending r) as (λ b. pending r ≡ b → map (λ r. carry r (task_of r.id (tasks_over (put eval_cmp eval_id e before) ts))) (cond b (r ∷ filter pending rs) (filter pending rs)) ≡ map (λ r. carry r (task_of r.id ts)) (cond b (r ∷ filter pending rs) (filter pending rs))) [
        | true ↦ λ p i. same_carry r a.0 p i ∷ same_tasks rs a.1 i
        | false ↦ λ p. same_tasks rs a.1
      ] refl

pub broker_told : (rows before after : List Evaluation) (b : Broker) → T (is_rising eval_cmp eval_id before) → T (is_rising eval_cmp eval_id after) → HoldsPending before b.tasks
    → AllByRecursion (IsRowOf after) rows → Else eval_cmp eval_id eval_cmp_total rows before after → broker_after rows b ≡ broker_over after b
broker_told [] before after b g h of each others =
    sym (ap (λ evals. broker_over evals b) (sym (puts_all eval_cmp eval_id eval_cmp_total [] before after g h tt others)) ∙ over_stays before b g of)
broker_told (e ∷ rows) before after b g h of each others =
    let between = put eval_cmp eval_id e before in
    let next = broker_over between b in
    ap (broker_after rows) (sym (broker_follows before e b g of))
    ∙ broker_told rows between after next (rising_put eval_cmp eval_id eval_cmp_total e before g) h (over_holds between b) each.1 (else_put eval_cmp eval_id eval_cmp_total e rows before after each.0 others)
    ∙ (λ i. record b { tasks = same_tasks e before after b.tasks g of each.0 after (all_found eval_cmp eval_id eval_cmp_total after h) i })

-- ---- the blocked evaluations

blocked_puts : (s : State) (nodes : List Node) (rows evals : List Evaluation) → T (is_rising eval_cmp eval_id evals)
    → blocked_after s rows (blocked_over (record s { nodes = nodes; evals = evals })) ≡ blocked_over (record s { nodes = nodes; evals = puts eval_cmp eval_id eval_cmp_total rows evals })
blocked_puts s nodes [] evals h = refl
blocked_puts s nodes (e ∷ rows) evals h =
    ap (blocked_after s rows) (sym (blocked_follow_evals (record s { nodes = nodes; evals = evals }) e h))
    ∙ blocked_puts s nodes rows (put eval_cmp eval_id e evals) (rising_put eval_cmp eval_id eval_cmp_total e evals h)

pub blocked_told : (s : State) (nodes : List Node) (rows before : List Evaluation) → T (is_rising eval_cmp eval_id before) → T (is_rising eval_cmp eval_id s.evals)
    → AllByRecursion (IsRowOf s.evals) rows → Else eval_cmp eval_id eval_cmp_total rows before s.evals
    → blocked_after s rows (blocked_over (record s { nodes = nodes; evals = before })) ≡ blocked_over (record s { nodes = nodes })
blocked_told s nodes rows before g h each others =
    blocked_puts s nodes rows before g
    ∙ ap (λ evals. blocked_over (record s { nodes = nodes; evals = evals })) (puts_all eval_cmp eval_id eval_cmp_total rows before s.evals g h each others)
