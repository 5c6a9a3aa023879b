-- The effects as puts of one row after the other are the effects as changes of all rows.
use Rattle.std.proofs.Common.{◌≡◌, ℕ, Bool, true, false, cond, ◌&&◌, ◌||◌, T, List, [], ◌∷◌, ◌++◌, length, map, Option, Some, None, is_some, refl, sym, ap, subst, ◌∙◌}
use Rattle.std.specs.Prelude.{nat_eq, nat_lt}
use Rattle.std.specs.List.{list_any}
use Rattle.std.specs.Cmp.{IsTotalOrder, nat_cmp_total, tied_itself}
use Rattle.std.specs.Cmp.Lexicographic.{nat_list_cmp_total}
use Rattle.std.specs.Ordering.{nat_cmp, is_eq, is_lt, ordering_reverse}
use Rattle.std.specs.declared.cmp.Ordering.{Ordering}
use Rattle.std.specs.declared.cmp.Ordering.TheVariants.{Less, Equal, Greater}
use Rattle.rows.specs.declared.job.Job.{Job}
use Rattle.rows.specs.declared.node.Node.{Node}
use Rattle.rows.specs.declared.node.NodeStatus.{NodeStatus}
use Rattle.rows.specs.declared.node.DrainMode.TheVariants as drains
use Rattle.rows.specs.declared.evaluation.EvalId.{EvalId}
use Rattle.rows.specs.declared.evaluation.Evaluation.{Evaluation}
use Rattle.rows.specs.declared.command.StatusChange.{StatusChange}
use Rattle.rows.specs.Changes.{status_of, snapshot_of}
use Rattle.rows.specs.Keys.{name_cmp, eval_cmp, job_name, node_number, eval_id}
use Rattle.rows.specs.Rising.{is_below, is_rising}
use Rattle.fsm_tables.specs.Rows.{by_order, row_of, has_row, put, put_within}
use Rattle.fsm_tables.proofs.RowLaws.{both, less, first, second, none_below, below_less, below_tied, some_none, some_same}
use Rattle.fsm_tables.proofs.ReservedTables.{found_tied}
use Rattle.fsm_model.specs.Words.{is_some_and, same_eval, is_open}
use Rattle.fsm_model.specs.Effect.{stop_job, status_row, marked_as, draining, drained, set_status}
use Rattle.rows.proofs.KeyLaws.{eval_cmp_total}
use Rattle.fsm_state.specs.Inner.Steps.{put_changed, with_row_changed, set_one}
use Rattle.fsm_model.proofs.Lists.{maps_same, or_false, both_tests}
use Rattle.fsm_model.proofs.Keys.{at_name, at_number, at_eval}

-- ---- a change at a key is a map, in a table of rising keys

-- the change of the row of a key
abbrev pub only : {K X : Type 0} → (K → K → Ordering) → (X → K) → (X → X) → K → X → X
only R key f k y = cond (is_eq (R k (key y))) (f y) y

module _ {K X : Type 0} (R : K → K → Ordering) (key : X → K) where
  pub only_keeps : (f : X → X) → ((x : X) → key (f x) ≡ key x) → (k : K) (y : X) → key (only R key f k y) ≡ key y
  only_keeps f keeps k y = elim (is_eq (R k (key y))) as (λ b. key (cond b (f y) y) ≡ key y) [ true ↦ keeps y | false ↦ refl ]

  pub none_only : (f : X → X) (k : K) (ys : List X) → row_of R key k ys ≡ None → map (only R key f k) ys ≡ ys
  none_only f k [] e = refl
  none_only f k (y ∷ ys) e =
      elim (is_eq (R k (key y))) as (λ b. cond b (Some y) (row_of R key k ys) ≡ None → cond b (f y) y ∷ map (only R key f k) ys ≡ y ∷ ys) [
        | true ↦ λ e. absurd (some_none y e)
        | false ↦ λ e. ap (λ zs. y ∷ zs) (none_only f k ys e)
      ] e

  module _ (o : IsTotalOrder R) where
    -- keys that are alike find the same row
    pub row_tied : (j k : K) → R j k ≡ Equal → (ys : List X) → row_of R key j ys ≡ row_of R key k ys
    row_tied j k e [] = refl
    row_tied j k e (y ∷ ys) = λ i. cond (is_eq (o.congr j k (key y) e i)) (Some y) (row_tied j k e ys i)

    below_only : (f : X → X) (k : K) (ys : List X) → T (is_below R key k ys) → map (only R key f k) ys ≡ ys
    below_only f k ys h = none_only f k ys (none_below R key o k ys h)

    pub put_only : (f : X → X) → ((x : X) → key (f x) ≡ key x) → (k : K) (r : X) (ys : List X) → T (is_rising R key ys) → row_of R key k ys ≡ Some r → put R key (f r) ys ≡ map (only R key f k) ys
    put_only f keeps k r [] h e = absurd (some_none r (sym e))
    put_only f keeps k r (y ∷ ys) h e =
        elim (R k (key y)) as (λ q. R k (key y) ≡ q → cond (is_eq q) (Some y) (row_of R key k ys) ≡ Some r → put R key (f r) (y ∷ ys) ≡ cond (is_eq q) (f y) y ∷ map (only R key f k) ys) [
          | Less ↦ λ p e. absurd (some_none r (sym e ∙ none_below R key o k ys (below_less R key o k (key y) ys p (first _ _ h))))
          | Equal ↦ λ p e.
              let same : y ≡ r = some_same y r e in
              let tie : R (key (f r)) (key y) ≡ Equal = ap (λ q. R q (key y)) (keeps r ∙ ap key (sym same)) ∙ tied_itself o (key y) in
              ap (λ q. by_order q (f r ∷ y ∷ ys) (f r ∷ ys) (y ∷ put R key (f r) ys)) tie
              ∙ (λ i. f (sym same i) ∷ sym (below_only f k ys (below_tied R key o k (key y) ys p (first _ _ h))) i)
          | Greater ↦ λ p e.
              let past : R (key (f r)) (key y) ≡ Greater = ap (λ q. R q (key y)) (keeps r) ∙ sym (o.congr k (key r) (key y) (found_tied R key o k ys r e)) ∙ p in
              ap (λ q. by_order q (f r ∷ y ∷ ys) (f r ∷ ys) (y ∷ put R key (f r) ys)) past
              ∙ ap (λ zs. y ∷ zs) (put_only f keeps k r ys (second _ _ h) e)
        ] refl e

    pub changed_is : (most : ℕ) (f : X → X) → ((x : X) → key (f x) ≡ key x) → (k : K) (ys : List X) → T (is_rising R key ys) → with_row_changed R key most f k ys ≡ map (only R key f k) ys
    changed_is most f keeps k ys h =
        elim (row_of R key k ys) as (λ m. row_of R key k ys ≡ m → put_changed R key most f m ys ≡ map (only R key f k) ys) [
          | None ↦ λ e. sym (none_only f k ys e)
          | Some r ↦ λ e.
              let there : row_of R key (key (f r)) ys ≡ Some r = ap (λ q. row_of R key q ys) (keeps r) ∙ sym (row_tied k (key r) (found_tied R key o k ys r e) ys) ∙ e in
              ap (λ (m : Option X). cond (is_some m || nat_lt (length ys) most) (put R key (f r) ys) ys) there
              ∙ put_only f keeps k r ys h e
        ] refl

    -- a test of the row of a key
    none_any : (p : X → Bool) (k : K) (ys : List X) → row_of R key k ys ≡ None → list_any (λ y. is_eq (R k (key y)) && p y) ys ≡ false
    none_any p k [] e = refl
    none_any p k (y ∷ ys) e =
        elim (is_eq (R k (key y))) as (λ b. cond b (Some y) (row_of R key k ys) ≡ None → ((b && p y) || list_any (λ y. is_eq (R k (key y)) && p y) ys) ≡ false) [
          | true ↦ λ e. absurd (some_none y e)
          | false ↦ λ e. none_any p k ys e
        ] e

    pub any_at : (p : X → Bool) (k : K) (ys : List X) → T (is_rising R key ys) → list_any (λ y. is_eq (R k (key y)) && p y) ys ≡ is_some_and p (row_of R key k ys)
    any_at p k [] h = refl
    any_at p k (y ∷ ys) h =
        elim (R k (key y)) as (λ q. R k (key y) ≡ q → ((is_eq q && p y) || list_any (λ y. is_eq (R k (key y)) && p y) ys) ≡ is_some_and p (cond (is_eq q) (Some y) (row_of R key k ys))) [
          | Less ↦ λ e. any_at p k ys (second _ _ h)
          | Equal ↦ λ e. ap (λ b. p y || b) (none_any p k ys (none_below R key o k ys (below_tied R key o k (key y) ys e (first _ _ h)))) ∙ or_false (p y)
          | Greater ↦ λ e. any_at p k ys (second _ _ h)
        ] refl

    -- one row in the midst of others
    found_there : (x y : X) → key x ≡ key y → (xs ys : List X) → has_row R key (key x) (xs ++ y ∷ ys) ≡ true
    found_there x y e [] ys = ap (λ r. is_some (cond (is_eq r) (Some y) (row_of R key (key x) ys))) (ap (λ k. R k (key y)) e ∙ tied_itself o (key y))
    found_there x y e (z ∷ xs) ys =
        elim (is_eq (R (key x) (key z))) as (λ b. is_some (cond b (Some z) (row_of R key (key x) (xs ++ y ∷ ys))) ≡ true) [ true ↦ refl | false ↦ found_there x y e xs ys ]

    below_there : (k : K) (y : X) (xs ys : List X) → T (is_below R key k (xs ++ y ∷ ys)) → R k (key y) ≡ Less
    below_there k y [] ys h = less _ (first _ _ h)
    below_there k y (z ∷ xs) ys h = below_there k y xs ys (second _ _ h)

    pub put_between : (x y : X) → key x ≡ key y → (xs ys : List X) → T (is_rising R key (xs ++ y ∷ ys)) → put R key x (xs ++ y ∷ ys) ≡ xs ++ x ∷ ys
    put_between x y e [] ys h = ap (λ r. by_order r (x ∷ y ∷ ys) (x ∷ ys) (y ∷ put R key x ys)) (ap (λ k. R k (key y)) e ∙ tied_itself o (key y))
    put_between x y e (z ∷ xs) ys h =
        let past : R (key x) (key z) ≡ Greater = ap (λ k. R k (key z)) e ∙ o.antisymm (key y) (key z) ∙ ap ordering_reverse (below_there (key z) y xs ys (first _ _ h)) in
        ap (λ r. by_order r (x ∷ z ∷ (xs ++ y ∷ ys)) (x ∷ (xs ++ y ∷ ys)) (z ∷ put R key x (xs ++ y ∷ ys))) past
        ∙ ap (λ zs. z ∷ zs) (put_between x y e xs ys (second _ _ h))

    below_part : (f : X → X) → ((x : X) → key (f x) ≡ key x) → (k : K) (xs ys : List X) → T (is_below R key k (xs ++ ys)) → T (is_below R key k (map f xs ++ ys))
    below_part f keeps k [] ys h = h
    below_part f keeps k (x ∷ xs) ys h = both _ _ (subst (λ q. T (is_lt (R k q))) (sym (keeps x)) (first _ _ h)) (below_part f keeps k xs ys (second _ _ h))

    pub rising_part : (f : X → X) → ((x : X) → key (f x) ≡ key x) → (xs ys : List X) → T (is_rising R key (xs ++ ys)) → T (is_rising R key (map f xs ++ ys))
    rising_part f keeps [] ys h = h
    rising_part f keeps (x ∷ xs) ys h = both _ _
        (subst (λ q. T (is_below R key q (map f xs ++ ys))) (sym (keeps x)) (below_part f keeps (key x) xs ys (first _ _ h)))
        (rising_part f keeps xs ys (second _ _ h))

    -- one more row of a change of all rows
    pub one_more : (most : ℕ) (f : X → X) → ((x : X) → key (f x) ≡ key x) → (xs : List X) (y : X) (ys : List X) → T (is_rising R key (xs ++ y ∷ ys))
        → put_within R key most (f y) (map f xs ++ y ∷ ys) ≡ map f xs ++ f y ∷ ys
    one_more most f keeps xs y ys h =
        ap (λ b. cond (b || nat_lt (length (map f xs ++ y ∷ ys)) most) (put R key (f y) (map f xs ++ y ∷ ys)) (map f xs ++ y ∷ ys)) (found_there (f y) y (keeps y) (map f xs) ys)
        ∙ put_between (f y) y (keeps y) (map f xs) ys (rising_part f keeps xs (y ∷ ys) h)

-- ---- jobs, nodes, evaluations

pub stopped_job : (x : ℕ) (name : List ℕ) (jobs : List Job) → T (is_rising name_cmp job_name jobs) → with_row_changed name_cmp job_name 256 (λ j. record j { stopped = true; version = x }) name jobs ≡ map (stop_job x name) jobs
stopped_job x name jobs h =
    changed_is name_cmp job_name nat_list_cmp_total 256 (λ j. record j { stopped = true; version = x }) (λ j. refl) name jobs h
    ∙ maps_same _ (stop_job x name) (λ j. ap (λ b. cond b (record j { stopped = true; version = x }) j) (at_name name j)) jobs

pub node_changed_is : (f : Node → Node) → ((r : Node) → (f r).number ≡ r.number) → (n : ℕ) (nodes : List Node) → T (is_rising nat_cmp node_number nodes) → with_row_changed nat_cmp node_number 64 f n nodes ≡ map (λ r. cond (nat_eq r.number n) (f r) r) nodes
node_changed_is f keeps n nodes h =
    changed_is nat_cmp node_number nat_cmp_total 64 f keeps n nodes h
    ∙ maps_same _ (λ r. cond (nat_eq r.number n) (f r) r) (λ r. ap (λ b. cond b (f r) r) (at_number n r.number)) nodes

pub marked_node : (status : NodeStatus) (n : ℕ) (nodes : List Node) → T (is_rising nat_cmp node_number nodes) → with_row_changed nat_cmp node_number 64 (status_row status) n nodes ≡ map (marked_as status n) nodes
marked_node status n nodes h = node_changed_is (status_row status) (λ r. refl) n nodes h

pub draining_node : (n : ℕ) (force : Bool) (nodes : List Node) → T (is_rising nat_cmp node_number nodes) → with_row_changed nat_cmp node_number 64 (λ r. record r { eligible = false; drain = cond force drains.Force drains.Slow }) n nodes ≡ map (draining n force) nodes
draining_node n force nodes h = node_changed_is (λ r. record r { eligible = false; drain = cond force drains.Force drains.Slow }) (λ r. refl) n nodes h

pub drained_node : (n : ℕ) (nodes : List Node) → T (is_rising nat_cmp node_number nodes) → with_row_changed nat_cmp node_number 64 (λ r. record r { drain = drains.Off }) n nodes ≡ map (drained n) nodes
drained_node n nodes h = node_changed_is (λ r. record r { drain = drains.Off }) (λ r. refl) n nodes h

pub changed_status : (id : EvalId) (to : StatusChange) (evals : List Evaluation) → T (is_rising eval_cmp eval_id evals) → with_row_changed eval_cmp eval_id 65536 (set_one to) id evals ≡ map (set_status id to) evals
changed_status id to evals h =
    changed_is eval_cmp eval_id eval_cmp_total 65536 (set_one to) (λ e. elim (is_open e.status) as (λ b. eval_id (cond b (record e { status = status_of to; snapshot = snapshot_of to }) e) ≡ e.id) [ true ↦ refl | false ↦ refl ]) id evals h
    ∙ maps_same _ (set_status id to) (λ e. ap (λ b. cond b (set_one to e) e) (at_eval id e) ∙ both_tests (same_eval e.id id) (is_open e.status) _ e) evals
