-- A command that admission does not refuse keeps a safe state safe.
use Rattle.std.proofs.Common.{◌≡◌, ℕ, ◌+◌, ◌≤◌, Bool, true, false, cond, not, ◌&&◌, ◌||◌, T, List, [], ◌∷◌, length, map, Option, Some, None, is_some, refl, sym, ap, subst, ◌∙◌, arith}
use Rattle.std.specs.Prelude.{sum_by, nat_eq, nat_lt}
use Rattle.std.specs.List.{list_all, list_any}
use Rattle.std.specs.Cmp.{nat_cmp_total}
use Rattle.std.specs.Ordering.{nat_cmp, is_eq}
use Rattle.std.specs.declared.cmp.Ordering.TheVariants.{Less, Equal, Greater}
use Rattle.std.proofs.lemmas.List.Sums.{sum_by-cons}
use Rattle.rows.specs.declared.size.Size.{Size}
use Rattle.rows.specs.declared.node.Node.{Node}
use Rattle.rows.specs.declared.node.NodeSpec.{NodeSpec}
use Rattle.rows.specs.declared.node.NodeStatus.{NodeStatus}
use Rattle.rows.specs.declared.node.NodeStatus.TheVariants as statuses
use Rattle.rows.specs.declared.node.DrainMode.TheVariants as drains
use Rattle.rows.specs.declared.allocation.Desired.{Desired}
use Rattle.rows.specs.declared.allocation.Desired.TheVariants as desires
use Rattle.rows.specs.declared.allocation.ClientState.{ClientState}
use Rattle.rows.specs.declared.allocation.ClientState.TheVariants as clients
use Rattle.rows.specs.declared.allocation.AllocId.{AllocId}
use Rattle.rows.specs.declared.allocation.Allocation.{Allocation}
use Rattle.rows.specs.declared.command.Report.{Report}
use Rattle.rows.specs.declared.command.Command.{Command}
use Rattle.rows.specs.declared.command.Command.TheVariants as commands
use Rattle.rows.specs.declared.refusal.Refusal.{Refusal}
use Rattle.rows.specs.Keys.{node_number}
use Rattle.fsm_tables.specs.Rows.{row_of, has_row, put, by_order}
use Rattle.fsm_tables.proofs.RowLaws.{both, first, second, row_of-put}
use Rattle.fsm_tables.proofs.Uses.{use_fits, fitting_use}
use Rattle.fsm_tables.specs.Claims.{Claim, claim_of, claims, on_node, used, is_live, is_wanted, is_active}
use Rattle.fsm_model.specs.Words.{State, no_rows, node_of, no_node, same_alloc}
use Rattle.rows.specs.Sizes.{fits}
use Rattle.fsm_model.specs.Safe.{is_within, is_placed, same_name, are_distinct, are_safe, is_safe}
use Rattle.fsm_model.specs.SafeFacts.{Safe}
use Rattle.fsm_model.proofs.SafeFacts.{safe_by_test, test_by_safe}
use Rattle.fsm_model.specs.Effect.{applied, with_next_count, node_row, node_put, marked_as, draining, drained, left_as, moves, with_migrate_mark, stop, client_state_of, told, told_all, frees, with_room, downed, disconnected}
use Rattle.fsm_model.specs.Admission.{first_of, admission, tests}
use Rattle.fsm_model.proofs.StateLaws.{either}

-- ---- some of the elements of a list, in their order

pub data Fewer {A : Type 0} : List A → List A → Type 0 where
  nothing : Fewer [] []
  kept : (x : A) (xs ys : List A) → Fewer xs ys → Fewer (x ∷ xs) (x ∷ ys)
  gone : (y : A) (xs ys : List A) → Fewer xs ys → Fewer xs (y ∷ ys)

neither : (a b : Bool) → T (not (a || b)) → T (not a) × T (not b)
neither true b h = absurd h
neither false b h = (tt, h)

none_of : (a b : Bool) → T (not a) → T (not b) → T (not (a || b))
none_of true b p q = absurd p
none_of false b p q = q

fewer_sum : {A : Type 0} (w : A → ℕ) (xs ys : List A) → Fewer xs ys → sum_by w xs ≤ sum_by w ys
fewer_sum w _ _ nothing = omega arith
fewer_sum w _ _ (kept x xs ys h) = let rest : sum_by w xs ≤ sum_by w ys = fewer_sum w xs ys h in omega (arith, sum_by-cons w x xs, sum_by-cons w x ys)
fewer_sum w _ _ (gone y xs ys h) = let rest : sum_by w xs ≤ sum_by w ys = fewer_sum w xs ys h in omega (arith, sum_by-cons w y ys)

fewer_all : {A : Type 0} (p : A → Bool) (xs ys : List A) → Fewer xs ys → T (list_all p ys) → T (list_all p xs)
fewer_all p _ _ nothing h = tt
fewer_all p _ _ (kept x xs ys f) h = both _ _ (first _ _ h) (fewer_all p xs ys f (second _ _ h))
fewer_all p _ _ (gone y xs ys f) h = fewer_all p xs ys f (second _ _ h)

pub fewer_any : {A : Type 0} (p : A → Bool) (xs ys : List A) → Fewer xs ys → T (not (list_any p ys)) → T (not (list_any p xs))
fewer_any p _ _ nothing h = tt
fewer_any p _ _ (kept x xs ys f) h = let n = neither _ _ h in none_of _ _ n.0 (fewer_any p xs ys f n.1)
fewer_any p _ _ (gone y xs ys f) h = fewer_any p xs ys f (neither _ _ h).1

pub fewer_distinct : (xs ys : List Claim) → Fewer xs ys → T (are_distinct ys) → T (are_distinct xs)
fewer_distinct _ _ nothing h = tt
fewer_distinct _ _ (kept x xs ys f) h = both _ _ (fewer_any (same_name x) xs ys f (first _ _ h)) (fewer_distinct xs ys f (second _ _ h))
fewer_distinct _ _ (gone y xs ys f) h = fewer_distinct xs ys f (second _ _ h)

all_by : {A : Type 0} (p q : A → Bool) (xs : List A) → ((x : A) → T (p x) → T (q x)) → T (list_all p xs) → T (list_all q xs)
all_by p q [] f h = tt
all_by p q (x ∷ xs) f h = both _ _ (f x (first _ _ h)) (all_by p q xs f (second _ _ h))

-- so less is used of a node
pub fewer_used : (cs ds : List Claim) → Fewer cs ds → (n : ℕ) (room : Size) → T (fits (used n ds) room) → T (fits (used n cs) room)
fewer_used cs ds f n room h = use_fits n cs room (λ p. let less = fewer_sum (on_node n p) cs ds f in let fit = fitting_use n ds room h p in omega (arith, less, fit))

fewer_within : (cs ds : List Claim) → Fewer cs ds → (n : Node) → T (is_within ds n) → T (is_within cs n)
fewer_within cs ds f n h = fewer_used cs ds f n.number n.size h

-- ---- the three parts of a safe state

pub within_of : (nodes : List Node) (cs : List Claim) → T (are_safe nodes cs) → T (list_all (is_within cs) nodes)
within_of nodes cs h = first (list_all (is_within cs) nodes) (list_all (is_placed nodes) cs) (first (list_all (is_within cs) nodes && list_all (is_placed nodes) cs) (are_distinct cs) h)

pub placed_of : (nodes : List Node) (cs : List Claim) → T (are_safe nodes cs) → T (list_all (is_placed nodes) cs)
placed_of nodes cs h = second (list_all (is_within cs) nodes) (list_all (is_placed nodes) cs) (first (list_all (is_within cs) nodes && list_all (is_placed nodes) cs) (are_distinct cs) h)

pub distinct_of : (nodes : List Node) (cs : List Claim) → T (are_safe nodes cs) → T (are_distinct cs)
distinct_of nodes cs h = second _ _ h

pub from_parts : (nodes : List Node) (cs : List Claim) → T (list_all (is_within cs) nodes) → T (list_all (is_placed nodes) cs) → T (are_distinct cs) → T (are_safe nodes cs)
from_parts nodes cs w p d = both _ _ (both _ _ w p) d

-- with fewer claims a safe state is safe
pub fewer_safe : (nodes : List Node) (cs ds : List Claim) → Fewer cs ds → T (are_safe nodes ds) → T (are_safe nodes cs)
fewer_safe nodes cs ds f h = from_parts nodes cs
    (all_by (is_within ds) (is_within cs) nodes (fewer_within cs ds f) (within_of nodes ds h))
    (fewer_all (is_placed nodes) cs ds f (placed_of nodes ds h))
    (fewer_distinct cs ds f (distinct_of nodes ds h))

-- ---- a change of allocations that makes no claim

pub record Releases (f : Allocation → Allocation) : Type 0 where
  pub same_claim : (a : Allocation) → claim_of (f a) ≡ claim_of a
  pub lives : (a : Allocation) → T (is_live (f a)) → T (is_live a)

fewer_head : (x y : Claim) (a b : Bool) (cs ds : List Claim) → x ≡ y → (T a → T b) → Fewer cs ds → Fewer (cond a (x ∷ cs) cs) (cond b (y ∷ ds) ds)
fewer_head x y true true cs ds e imp f = subst (λ z. Fewer (x ∷ cs) (z ∷ ds)) e (kept x cs ds f)
fewer_head x y true false cs ds e imp f = absurd (imp tt)
fewer_head x y false true cs ds e imp f = gone y cs ds f
fewer_head x y false false cs ds e imp f = f

pub released : (f : Allocation → Allocation) → Releases f → (rows : List Allocation) → Fewer (claims (map f rows)) (claims rows)
released f r [] = nothing
released f r (a ∷ rows) = fewer_head (claim_of (f a)) (claim_of a) (is_live (f a)) (is_live a) _ _ (r.same_claim a) (r.lives a) (released f r rows)

was_active : (d : Desired) (to from : ClientState) → T (is_active from) → T (is_wanted d && is_active to) → T (is_wanted d && is_active from)
was_active desires.Run to from p h = p
was_active desires.Stop to from p h = h

-- what was active comes into another client state
left_releases : (client : ClientState) (n : ℕ) → Releases (left_as client n)
left_releases client n = record {
  same_claim = λ a. elim (nat_eq a.node n && is_active a.client) as (λ b. claim_of (cond b (record a { client = client }) a) ≡ claim_of a) [ true ↦ refl | false ↦ refl ];
  lives = λ a. elim (nat_eq a.node n && is_active a.client) as (λ b. (nat_eq a.node n && is_active a.client) ≡ b → T (is_live (cond b (record a { client = client }) a)) → T (is_live a)) [
    | true ↦ λ e h. was_active a.desired client a.client (second (nat_eq a.node n) (is_active a.client) (subst T (sym e) tt)) h
    | false ↦ λ e h. h
  ] refl;
}

pub stop_releases : (ids : List AllocId) → Releases (stop ids)
stop_releases ids = record {
  same_claim = λ a. elim (list_any (same_alloc a.id) ids && is_wanted a.desired) as (λ b. claim_of (cond b (record a { desired = desires.Stop }) a) ≡ claim_of a) [ true ↦ refl | false ↦ refl ];
  lives = λ a. elim (list_any (same_alloc a.id) ids && is_wanted a.desired) as (λ b. T (is_live (cond b (record a { desired = desires.Stop }) a)) → T (is_live a)) [ true ↦ λ h. absurd h | false ↦ λ h. h ];
}

pub marked_releases : (ids : List AllocId) → Releases (with_migrate_mark ids)
marked_releases ids = record {
  same_claim = λ a. elim (moves ids a) as (λ b. claim_of (cond b (record a { migrate = true }) a) ≡ claim_of a) [ true ↦ refl | false ↦ refl ];
  lives = λ a. elim (moves ids a) as (λ b. T (is_live (cond b (record a { migrate = true }) a)) → T (is_live a)) [ true ↦ λ h. h | false ↦ λ h. h ];
}

pub told_releases : (n : ℕ) (r : Report) → Releases (told n r)
told_releases n r = record {
  same_claim = λ a. elim (same_alloc a.id r.id && nat_eq a.node n && is_active a.client) as (λ b. claim_of (cond b (record a { client = client_state_of r.state }) a) ≡ claim_of a) [ true ↦ refl | false ↦ refl ];
  lives = λ a. elim (same_alloc a.id r.id && nat_eq a.node n && is_active a.client) as (λ b. (same_alloc a.id r.id && nat_eq a.node n && is_active a.client) ≡ b → T (is_live (cond b (record a { client = client_state_of r.state }) a)) → T (is_live a)) [
    | true ↦ λ e h. was_active a.desired (client_state_of r.state) a.client (second (same_alloc a.id r.id && nat_eq a.node n) (is_active a.client) (subst T (sym e) tt)) h
    | false ↦ λ e h. h
  ] refl;
}

pub told_all_releases : (n : ℕ) (rs : List Report) → Releases (told_all n rs)
told_all_releases n [] = record { same_claim = λ a. refl; lives = λ a h. h }
told_all_releases n (r ∷ rs) =
    let one = told_releases n r in
    let rest = told_all_releases n rs in
    record { same_claim = λ a. rest.same_claim (told n r a) ∙ one.same_claim a; lives = λ a h. one.lives a (rest.lives (told n r a) h) }

-- ---- a change of nodes that keeps what they are

pub record KeepsSize (g : Node → Node) : Type 0 where
  pub number : (n : Node) → (g n).number ≡ n.number
  pub size : (n : Node) → (g n).size ≡ n.size

kept_within : (g : Node → Node) → KeepsSize g → (cs : List Claim) (nodes : List Node) → T (list_all (is_within cs) nodes) → T (list_all (is_within cs) (map g nodes))
kept_within g k cs [] h = tt
kept_within g k cs (n ∷ nodes) h = both _ _
    (subst (λ z. T (fits (used (g n).number cs) z)) (sym (k.size n)) (subst (λ i. T (fits (used i cs) n.size)) (sym (k.number n)) (first _ _ h)))
    (kept_within g k cs nodes (second _ _ h))

some_of : {A : Type 0} (b : Bool) (x y : A) (p q : Option A) → (T (is_some p) → T (is_some q)) → T (is_some (cond b (Some x) p)) → T (is_some (cond b (Some y) q))
some_of true x y p q imp h = tt
some_of false x y p q imp h = imp h

kept_row : (g : Node → Node) → KeepsSize g → (i : ℕ) (nodes : List Node) → T (has_row nat_cmp node_number i nodes) → T (has_row nat_cmp node_number i (map g nodes))
kept_row g k i [] h = h
kept_row g k i (n ∷ nodes) h =
    subst (λ j. T (is_some (cond (is_eq (nat_cmp i j)) (Some (g n)) (row_of nat_cmp node_number i (map g nodes))))) (sym (k.number n))
    (some_of (is_eq (nat_cmp i n.number)) n (g n) _ _ (kept_row g k i nodes) h)

pub kept_safe : (g : Node → Node) → KeepsSize g → (nodes : List Node) (cs : List Claim) → T (are_safe nodes cs) → T (are_safe (map g nodes) cs)
kept_safe g k nodes cs h = from_parts (map g nodes) cs
    (kept_within g k cs nodes (within_of nodes cs h))
    (all_by (is_placed nodes) (is_placed (map g nodes)) cs (λ c. kept_row g k c.node nodes) (placed_of nodes cs h))
    (distinct_of nodes cs h)

-- a node of another status is of the number and the size that it was
marked_keeps : (status : NodeStatus) (n : ℕ) → KeepsSize (marked_as status n)
marked_keeps status n = record {
  number = λ r. elim (nat_eq r.number n) as (λ b. (cond b (record r { status = status }) r).number ≡ r.number) [ true ↦ refl | false ↦ refl ];
  size = λ r. elim (nat_eq r.number n) as (λ b. (cond b (record r { status = status }) r).size ≡ r.size) [ true ↦ refl | false ↦ refl ];
}

-- ---- one node's row

all_put : (p : Node → Bool) (x : Node) (ys : List Node) → T (p x) → T (list_all p ys) → T (list_all p (put nat_cmp node_number x ys))
all_put p x [] q h = both _ _ q tt
all_put p x (y ∷ ys) q h =
    elim (nat_cmp x.number y.number) as (λ r. T (list_all p (by_order r (x ∷ y ∷ ys) (x ∷ ys) (y ∷ put nat_cmp node_number x ys)))) [
      | Less ↦ both _ _ q h
      | Equal ↦ both _ _ q (second _ _ h)
      | Greater ↦ both _ _ (first _ _ h) (all_put p x ys q (second _ _ h))
    ]

put_has : (x : Node) (ys : List Node) (i : ℕ) → T (has_row nat_cmp node_number i ys) → T (has_row nat_cmp node_number i (put nat_cmp node_number x ys))
put_has x ys i h = subst (λ o. T (is_some o)) (sym (row_of-put nat_cmp node_number nat_cmp_total i x ys))
    (elim (is_eq (nat_cmp i x.number)) as (λ b. T (is_some (cond b (Some x) (row_of nat_cmp node_number i ys)))) [ true ↦ tt | false ↦ h ])

pub put_safe : (x : Node) (nodes : List Node) (cs : List Claim) → T (is_within cs x) → T (are_safe nodes cs) → T (are_safe (put nat_cmp node_number x nodes) cs)
put_safe x nodes cs w h = from_parts (put nat_cmp node_number x nodes) cs
    (all_put (is_within cs) x nodes w (within_of nodes cs h))
    (all_by (is_placed nodes) (is_placed (put nat_cmp node_number x nodes)) cs (λ c. put_has x nodes c.node) (placed_of nodes cs h))
    (distinct_of nodes cs h)

-- a row that is found passes each test that all pass
pub found_passes : (p : Node → Bool) (i : ℕ) (x : Node) (ys : List Node) → row_of nat_cmp node_number i ys ≡ Some x → T (list_all p ys) → T (p x)
found_passes p i x [] e h = absurd cc
found_passes p i x (y ∷ ys) e h =
    elim (is_eq (nat_cmp i y.number)) as (λ b. cond b (Some y) (row_of nat_cmp node_number i ys) ≡ Some x → T (p x)) [
      | true ↦ λ e. let same : y ≡ x = cc in subst (λ z. T (p z)) same (first _ _ h)
      | false ↦ λ e. found_passes p i x ys e (second _ _ h)
    ] e

pub apart_adds_nothing : (b : Bool) (part : ℕ) → (T b → ⊥) → cond b part 0 ≡ 0
apart_adds_nothing true part h = absurd (h tt)
apart_adds_nothing false part h = refl

same_number : (i j : ℕ) → T (nat_eq j i) → j ≡ i
same_number i j h = grind arith

-- on a node without a row nothing is used
pub unused : (i : ℕ) (nodes : List Node) (w : Claim → ℕ) → row_of nat_cmp node_number i nodes ≡ None → ((c : Claim) → (T (nat_eq c.node i) → ⊥) → w c ≡ 0) → (cs : List Claim) → T (list_all (is_placed nodes) cs) → sum_by w cs ≡ 0
unused i nodes w none apart [] h = omega arith
unused i nodes w none apart (c ∷ cs) h =
    let rest : sum_by w cs ≡ 0 = unused i nodes w none apart cs (second _ _ h) in
    let here : w c ≡ 0 = apart c (λ same. subst (λ o. T (is_some o)) (ap (λ j. row_of nat_cmp node_number j nodes) (same_number i c.node same) ∙ none) (first _ _ h)) in
    omega (arith, sum_by-cons w c cs)

pub unused_fits : (n : ℕ) (nodes : List Node) → row_of nat_cmp node_number n nodes ≡ None → (cs : List Claim) → T (list_all (is_placed nodes) cs) → (room : Size) → T (fits (used n cs) room)
unused_fits n nodes none cs h room = use_fits n cs room (λ p. let no_use = unused n nodes (on_node n p) none (λ c apart. apart_adds_nothing _ _ apart) cs h in omega (arith, no_use))

node_row_within : (x : ℕ) (n : NodeSpec) (nodes : List Node) (cs : List Claim) → T (are_safe nodes cs) → (old : Option Node) → row_of nat_cmp node_number n.number nodes ≡ old → T (is_within cs (node_row x n old))
node_row_within x n nodes cs h None e = unused_fits n.number nodes e cs (placed_of nodes cs h) n.size
node_row_within x n nodes cs h (Some old) e = found_passes (is_within cs) n.number old nodes e (within_of nodes cs h)

with_node_safe : (n : NodeSpec) (s : State) → T (is_safe s) → T (is_safe (node_put n s))
with_node_safe n s h =
    let row = node_row s.count n (node_of n.number s) in
    let w : T (is_within (claims s.allocs) row) = node_row_within s.count n s.nodes (claims s.allocs) h (node_of n.number s) refl in
    elim (has_row nat_cmp node_number row.number s.nodes || nat_lt (length s.nodes) 64) as (λ b. T (are_safe (cond b (put nat_cmp node_number row s.nodes) s.nodes) (claims s.allocs))) [
      | true ↦ put_safe row s.nodes (claims s.allocs) w h
      | false ↦ h
    ]

-- ---- the others

draining_keeps : (n : ℕ) (force : Bool) → KeepsSize (draining n force)
draining_keeps n force = record {
  number = λ r. elim (nat_eq r.number n) as (λ b. (cond b (record r { eligible = false; drain = cond force drains.Force drains.Slow }) r).number ≡ r.number) [ true ↦ refl | false ↦ refl ];
  size = λ r. elim (nat_eq r.number n) as (λ b. (cond b (record r { eligible = false; drain = cond force drains.Force drains.Slow }) r).size ≡ r.size) [ true ↦ refl | false ↦ refl ];
}

drained_keeps : (n : ℕ) → KeepsSize (drained n)
drained_keeps n = record {
  number = λ r. elim (nat_eq r.number n) as (λ b. (cond b (record r { drain = drains.Off }) r).number ≡ r.number) [ true ↦ refl | false ↦ refl ];
  size = λ r. elim (nat_eq r.number n) as (λ b. (cond b (record r { drain = drains.Off }) r).size ≡ r.size) [ true ↦ refl | false ↦ refl ];
}

pub with_room_keeps : (freed : ℕ → Bool) (x : ℕ) → KeepsSize (with_room freed x)
with_room_keeps freed x = record {
  number = λ r. elim (freed r.number) as (λ b. (cond b (record r { room = x }) r).number ≡ r.number) [ true ↦ refl | false ↦ refl ];
  size = λ r. elim (freed r.number) as (λ b. (cond b (record r { room = x }) r).size ≡ r.size) [ true ↦ refl | false ↦ refl ];
}

-- no test of an admitted command holds
abbrev pub NonePasses : List (Bool × Refusal) → Type 0
NonePasses [] = Unit {0}
NonePasses (test ∷ others) = (test.0 ≡ false) × NonePasses others

pub none_passes : (all : List (Bool × Refusal)) → first_of all ≡ None → NonePasses all
none_passes [] e = tt
none_passes (test ∷ others) e =
    elim test.0 as (λ b. cond b (Some test.1) (first_of others) ≡ None → (b ≡ false) × NonePasses others) [
      | true ↦ λ e. absurd cc
      | false ↦ λ e. (refl, none_passes others e)
    ] e

true_by : (b : Bool) → not b ≡ false → T b
true_by true e = tt
true_by false e = absurd cc

released_safe : (f : Allocation → Allocation) → Releases f → (nodes : List Node) (rows : List Allocation) → T (are_safe nodes (claims rows)) → T (are_safe nodes (claims (map f rows)))
released_safe f r nodes rows h = fewer_safe nodes (claims (map f rows)) (claims rows) (released f r rows) h

-- a node that is not heard of
unreached_safe : (status : NodeStatus) (client : ClientState) (n : ℕ) (s : State) → T (is_safe s) → T (are_safe (map (marked_as status n) s.nodes) (claims (map (left_as client n) s.allocs)))
unreached_safe status client n s h = kept_safe (marked_as status n) (marked_keeps status n) s.nodes (claims (map (left_as client n) s.allocs))
    (released_safe (left_as client n) (left_releases client n) s.nodes s.allocs h)

pub admitted_is_safe : (s : State) (c : Command) → T (is_safe s) → admission s c ≡ None → T (is_safe (applied s c))
admitted_is_safe s commands.Noop h e = h
admitted_is_safe s (commands.JobPut j) h e = h
admitted_is_safe s (commands.JobStop name) h e = h
admitted_is_safe s (commands.NodePut n) h e = with_node_safe n (with_next_count s) h
admitted_is_safe s (commands.NodeDown n) h e =
    either (λ (t : State). T (is_safe t)) (no_node n s) (with_next_count s) (downed n (with_next_count s)) h (unreached_safe statuses.Down clients.Lost n s h)
admitted_is_safe s (commands.Disconnect n) h e =
    either (λ (t : State). T (is_safe t)) (no_node n s) (with_next_count s) (disconnected n (with_next_count s)) h (unreached_safe statuses.Disconnected clients.Unknown n s h)
admitted_is_safe s (commands.Drain n force) h e = kept_safe (draining n force) (draining_keeps n force) s.nodes (claims s.allocs) h
admitted_is_safe s (commands.DrainDone n) h e = kept_safe (drained n) (drained_keeps n) s.nodes (claims s.allocs) h
admitted_is_safe s (commands.Migrate ids) h e = released_safe (with_migrate_mark ids) (marked_releases ids) s.nodes s.allocs h
admitted_is_safe s (commands.EvalPut name) h e = h
admitted_is_safe s (commands.EvalStatus id to) h e = h
admitted_is_safe s (commands.Plan p) h e = true_by _ (none_passes (tests s (commands.Plan p)) e).1.1.1.1.1.1.0
admitted_is_safe s (commands.Report n rs) h e =
    kept_safe (with_room (frees (told_all n rs) s.allocs) (s.count + 1)) (with_room_keeps (frees (told_all n rs) s.allocs) (s.count + 1)) s.nodes (claims (map (told_all n rs) s.allocs))
    (released_safe (told_all n rs) (told_all_releases n rs) s.nodes s.allocs h)

-- ---- the law in facts

pub empty_is_safe : Safe no_rows
empty_is_safe = record { within = tt; placed = tt; apart = tt }

pub keeps_safe : (s : State) (c : Command) → Safe s → admission s c ≡ None → Safe (applied s c)
keeps_safe s c h e = safe_by_test (applied s c) (admitted_is_safe s c (test_by_safe s h) e)
