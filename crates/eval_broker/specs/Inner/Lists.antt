-- The lists that a broker keeps beside its tasks: all of them by job, the first that waits of each
-- job of which none is out or acked, and those given out too often.
use Rattle.std.specs.Prelude.{ℕ, ◌≡◌, ◌≤◌, Bool, true, false, not, ◌&&◌, if◌then◌else◌, nat_lt, List, length, T, Option, Some, None}
use Rattle.std.specs.declared.cmp.Ordering.{Ordering}
use Rattle.std.specs.Ordering.{bool_cmp, ordering_then, is_eq, is_lt}
use Rattle.rows.specs.declared.evaluation.EvalId.{EvalId}
use Rattle.rows.specs.Keys.{name_cmp, eval_cmp}
use Rattle.rows.specs.Rising.{is_rising}
use Rattle.fsm_tables.specs.Rows.{row_of, has_row}
use Rattle.fsm_tables.specs.declared.urgency.Urgency.{Urgency}
use Rattle.fsm_tables.specs.Urgencies.{urgency_cmp}
use Rattle.group_model.specs.Brokers.{Task, task_id, task_of, is_free, MOST}
use Rattle.eval_broker.specs.declared.ranks.Rank.{Rank}
use Rattle.eval_broker.specs.declared.ranks.Head.{Head}
use Rattle.eval_broker.specs.declared.lists.Lists.{Lists}
use Rattle.eval_broker.specs.declared.tasks.Tasks.{Tasks}
use Rattle.eval_broker.specs.Answers.{urgency_of}

-- ---- ranks and heads

abbrev pub rank_cmp : Rank → Rank → Ordering
rank_cmp a b = ordering_then (name_cmp a.job b.job) (ordering_then (bool_cmp a.is_free b.is_free) (ordering_then (bool_cmp a.is_spent b.is_spent) (urgency_cmp a.urgency b.urgency)))

abbrev pub head_cmp : Head → Head → Ordering
head_cmp a b = ordering_then (urgency_cmp a.urgency b.urgency) (name_cmp a.job b.job)

abbrev pub rank_job : Rank → List ℕ
rank_job p = p.job

abbrev pub rank_id : Rank → EvalId
rank_id p = p.urgency.id

abbrev pub head_id : Head → EvalId
head_id t = t.urgency.id

abbrev pub urgency_id : Urgency → EvalId
urgency_id u = u.id

-- whether it was given out as often as may be
abbrev pub is_spent : Task → Bool
is_spent t = not (nat_lt t.deliveries MOST)

abbrev pub is_failed : Task → Bool
is_failed t = is_free t.mark && is_spent t

abbrev pub is_any : Task → Bool
is_any t = true

abbrev pub rank_of : Task → Rank
rank_of t = record { job = t.job; is_free = is_free t.mark; is_spent = is_spent t; urgency = urgency_of t }

abbrev pub head_for : Task → Head
head_for t = record { urgency = urgency_of t; job = t.job }

-- ---- what the lists have

module _ {X : Type 0} (R : X → X → Ordering) where
  -- whether a list has it
  abbrev pub holds_key : X → List X → Bool
  holds_key q xs = has_row R (λ x. x) q xs

  -- whether it is what is made of a task that passes
  abbrev pub is_listed : (Task → X) → (Task → Bool) → X → Option Task → Bool
  is_listed make passes q None = false
  is_listed make passes q (Some t) = passes t && is_eq (R q (make t))

  -- the list has what is made of the tasks that pass, and no other, in order
  pub record IsListing (id_of : X → EvalId) (make : Task → X) (passes : Task → Bool) (tasks : List Task) (xs : List X) : Type 0 where
    pub rising : T (is_rising R (λ x. x) xs)
    pub exact : (q : X) → holds_key q xs ≡ is_listed make passes q (task_of (id_of q) tasks)

-- the task of a rank as a head, if it waits for a worker
abbrev pub head_at : Rank → Option Head
head_at p = if p.is_free && not p.is_spent then Some (record { urgency = p.urgency; job = p.job }) else None

abbrev pub first_head : Option Rank → Option Head
first_head None = None
first_head (Some p) = head_at p

-- the first of a job that waits, where none of the job is out or acked: those that are rank first
abbrev pub head_of : List ℕ → List Rank → Option Head
head_of job ranks = first_head (row_of name_cmp rank_job job ranks)

-- whether the first of its job comes before it
abbrev pub is_behind : Rank → Option Rank → Bool
is_behind p None = false
is_behind p (Some first) = is_lt (rank_cmp first p)

abbrev pub is_head : Head → Option Head → Bool
is_head t None = false
is_head t (Some h) = is_eq (head_cmp t h)

-- the heads of all jobs
pub record AreHeads (ranks : List Rank) (heads : List Head) : Type 0 where
  pub rising : T (is_rising head_cmp (λ t. t) heads)
  pub exact : (t : Head) → holds_key head_cmp t heads ≡ is_head t (head_of t.job ranks)

-- and of all jobs but one
pub record AreHeadsBut (job : List ℕ) (ranks : List Rank) (heads : List Head) : Type 0 where
  pub rising : T (is_rising head_cmp (λ t. t) heads)
  pub exact : (t : Head) → holds_key head_cmp t heads ≡ (not (is_eq (name_cmp t.job job)) && is_head t (head_of t.job ranks))

-- the heads of these ranks are no more than so many
abbrev pub HasHeadsUpTo : ℕ → List Rank → Type 0
HasHeadsUpTo most ranks = (heads : List Head) → AreHeads ranks heads → length heads ≤ most

-- the three lists are those of these tasks
pub record AreTaskLists (tasks : List Task) (l : Lists) : Type 0 where
  pub ranks : IsListing rank_cmp rank_id rank_of is_any tasks l.ranks.rows
  pub heads : AreHeads l.ranks.rows l.heads.rows
  pub failed : IsListing urgency_cmp urgency_id urgency_of is_failed tasks l.failed.rows

-- each has room for so many
pub record HaveCapacity (most : ℕ) (l : Lists) : Type 0 where
  pub ranks : most ≤ l.ranks.capacity
  pub heads : most ≤ l.heads.capacity
  pub failed : most ≤ l.failed.capacity

-- none of them loses room
pub record KeepCapacity (old new : Lists) : Type 0 where
  pub ranks : old.ranks.capacity ≤ new.ranks.capacity
  pub heads : old.heads.capacity ≤ new.heads.capacity
  pub failed : old.failed.capacity ≤ new.failed.capacity

-- what tasks and lists keep: room for what each task may come to, so that no call but one that
-- brings in a task takes memory
pub record AreKept (k : Tasks) : Type 0 where
  pub rising : T (is_rising eval_cmp task_id k.tasks.rows)
  pub listed : AreTaskLists k.tasks.rows k.lists
  pub capacity : HaveCapacity (length k.tasks.rows) k.lists

-- neither out nor acked, nor given out yet
abbrev pub is_fresh : Task → Type 0
is_fresh t = (is_free t.mark ≡ true) × (t.deliveries ≡ 0)
