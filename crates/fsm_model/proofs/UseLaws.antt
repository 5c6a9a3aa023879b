-- Safety told by the numbers of nodes: with ids and sizes in their ranges, a state is safe where
-- each number's use is within what that number has, and no two claims are of one name.
use Rattle.std.proofs.Common.{◌≡◌, ℕ, ◌+◌, ◌<◌, ◌≤◌, Bool, true, false, cond, not, ◌&&◌, T, List, [], ◌∷◌, ◌++◌, map, Option, Some, None, is_some, refl, sym, ap, subst, ◌∙◌, arith}
use Rattle.std.specs.Prelude.{sum_by, nat_eq}
use Rattle.std.specs.List.{AllByRecursion, list_all}
use Rattle.std.specs.Cmp.{nat_cmp_total, tied_itself}
use Rattle.std.specs.Ordering.{nat_cmp, is_eq, ordering_reverse}
use Rattle.std.proofs.lemmas.List.{append_assoc}
use Rattle.std.proofs.lemmas.List.Sums.{sum_by-cons, sum_by-append}
use Rattle.std.proofs.lemmas.Map.Lookups.{exact_unsigned}
use Rattle.rows.specs.declared.node.Node.{Node}
use Rattle.rows.specs.declared.allocation.Allocation.{Allocation}
use Rattle.rows.specs.Keys.{node_number}
use Rattle.rows.specs.Rising.{is_below, is_rising}
use Rattle.rows.specs.Fits.{AllocationFits, NodeFits}
use Rattle.fsm_tables.specs.Rows.{row_of}
use Rattle.fsm_tables.proofs.RowLaws.{both, first, second, less, equal}
use Rattle.fsm_tables.specs.Claims.{Claim, claim_of, claims, on_node, used, is_live}
use Rattle.rows.specs.Sizes.{Cpu, no_size, fits}
use Rattle.fsm_tables.proofs.Uses.{fitting_use}
use Rattle.fsm_model.specs.Safe.{is_within, is_placed, are_distinct, are_safe}
use Rattle.fsm_model.proofs.SafeLaws.{KeepsSize, Releases, found_passes, unused_fits, within_of, placed_of, from_parts}
use Rattle.fsm_model.specs.Plans.{room_of, fits_number, ended}

-- ---- in a safe state each number's use is within what it has

found_number : (i : ℕ) (x : Node) (ys : List Node) → row_of nat_cmp node_number i ys ≡ Some x → x.number ≡ i
found_number i x [] e = absurd cc
found_number i x (y ∷ ys) e =
    elim (is_eq (nat_cmp i y.number)) as (λ b. is_eq (nat_cmp i y.number) ≡ b → cond b (Some y) (row_of nat_cmp node_number i ys) ≡ Some x → x.number ≡ i) [
      | true ↦ λ t e. let same : y ≡ x = cc in sym (ap (λ z. z.number) same) ∙ sym (exact_unsigned i y.number (equal _ (subst T (sym t) tt)))
      | false ↦ λ t e. found_number i x ys e
    ] refl e

pub number_fits : (nodes : List Node) (cs : List Claim) → T (are_safe nodes cs) → (n : ℕ) → T (fits_number nodes cs n)
number_fits nodes cs h n =
    elim (row_of nat_cmp node_number n nodes) as (λ o. row_of nat_cmp node_number n nodes ≡ o → T (fits (used n cs) (room_of o))) [
      | None ↦ λ e. unused_fits n nodes e cs (placed_of nodes cs h) no_size
      | Some r ↦ λ e. subst (λ i. T (fits (used i cs) r.size)) (found_number n r nodes e) (found_passes (is_within cs) n r nodes e (within_of nodes cs h))
    ] refl

-- ---- and a state in which they are, and names are held once, is safe

-- each row of a rising list is found by its number
found_behind : (y : Node) (ys zs : List Node) → T (is_below nat_cmp node_number y.number zs) → AllByRecursion (λ z. row_of nat_cmp node_number z.number ys ≡ Some z) zs → AllByRecursion (λ z. row_of nat_cmp node_number z.number (y ∷ ys) ≡ Some z) zs
found_behind y ys [] h f = tt
found_behind y ys (z ∷ zs) h f = (
  ap (λ r. cond (is_eq r) (Some y) (row_of nat_cmp node_number z.number ys)) (nat_cmp_total.antisymm z.number y.number ∙ ap ordering_reverse (less _ (first _ _ h))) ∙ f.0,
  found_behind y ys zs (second _ _ h) f.1,
)

each_found : (ys : List Node) → T (is_rising nat_cmp node_number ys) → AllByRecursion (λ z. row_of nat_cmp node_number z.number ys ≡ Some z) ys
each_found [] h = tt
each_found (y ∷ ys) h = (
  ap (λ r. cond (is_eq r) (Some y) (row_of nat_cmp node_number y.number ys)) (tied_itself nat_cmp_total y.number),
  found_behind y ys ys (first _ _ h) (each_found ys (second _ _ h)),
)

within_by_number : (nodes : List Node) (cs : List Claim) → ((n : ℕ) → n < 65 → T (fits_number nodes cs n))
    → (ys : List Node) → AllByRecursion (λ z. row_of nat_cmp node_number z.number nodes ≡ Some z) ys → AllByRecursion (λ z. z.number < 65) ys → T (list_all (is_within cs) ys)
within_by_number nodes cs f [] found low = tt
within_by_number nodes cs f (y ∷ ys) found low = both _ _
    (subst (λ o. T (fits (used y.number cs) (room_of o))) found.0 (f y.number low.0))
    (within_by_number nodes cs f ys found.1 low.1)

-- what a claim needs for that: a number of a node, which is not 0, and some cpu
abbrev pub Counts : Claim → Type 0
Counts c = (c.node < 65) × (1 ≤ c.size.cpu) × (1 ≤ c.node)

itself : (n x : ℕ) → cond (nat_eq n n) x 0 ≡ x
itself n x = grind arith

uses_some : (cs ds : List Claim) → AllByRecursion Counts cs → AllByRecursion (λ c. 1 ≤ sum_by (on_node c.node Cpu) (ds ++ cs)) cs
uses_some [] ds h = tt
uses_some (c ∷ cs) ds h =
    let one : on_node c.node Cpu c ≡ c.size.cpu = itself c.node c.size.cpu in
    let some : 1 ≤ c.size.cpu = h.0.1 in
    let all = sum_by-append (on_node c.node Cpu) ds (c ∷ cs) in
    let more = sum_by-cons (on_node c.node Cpu) c cs in (
      omega (arith, one, some, all, more),
      subst (λ es. AllByRecursion (λ d. 1 ≤ sum_by (on_node d.node Cpu) es) cs) (append_assoc ds (c ∷ []) cs) (uses_some cs (ds ++ c ∷ []) h.1),
    )

placed_by_number : (nodes : List Node) (cs : List Claim) → ((n : ℕ) → n < 65 → T (fits_number nodes cs n))
    → (ds : List Claim) → AllByRecursion Counts ds → AllByRecursion (λ c. 1 ≤ sum_by (on_node c.node Cpu) cs) ds → T (list_all (is_placed nodes) ds)
placed_by_number nodes cs f [] h some = tt
placed_by_number nodes cs f (c ∷ ds) h some = both _ _
    (elim (row_of nat_cmp node_number c.node nodes) as (λ o. T (fits (used c.node cs) (room_of o)) → T (is_some o)) [
      | None ↦ λ fit. let none : sum_by (on_node c.node Cpu) cs ≤ 0 = fitting_use c.node cs no_size fit Cpu in absurd (omega (arith, none, some.0))
      | Some r ↦ λ fit. tt
    ] (f c.node h.0.0))
    (placed_by_number nodes cs f ds h.1 some.1)

pub safe_by_numbers : (nodes : List Node) (cs : List Claim) → T (is_rising nat_cmp node_number nodes) → AllByRecursion (λ z. z.number < 65) nodes → AllByRecursion Counts cs
    → ((n : ℕ) → n < 65 → T (fits_number nodes cs n)) → T (are_distinct cs) → T (are_safe nodes cs)
safe_by_numbers nodes cs rising low counts f apart = from_parts nodes cs
    (within_by_number nodes cs f nodes (each_found nodes rising) low)
    (placed_by_number nodes cs f cs counts (uses_some cs [] counts))
    apart

-- the ranges of rows give what is asked of them here
pub low_numbers : (nodes : List Node) → AllByRecursion NodeFits nodes → AllByRecursion (λ z. z.number < 65) nodes
low_numbers [] h = tt
low_numbers (n ∷ nodes) h = let le = h.0.0.1 in (omega (arith, le), low_numbers nodes h.1)

pub all_count : (rows : List Allocation) → AllByRecursion AllocationFits rows → AllByRecursion Counts (claims rows)
all_count [] h = tt
all_count (a ∷ rows) h =
    let low = h.0.4.1 in
    let some = h.0.5.0.0 in
    elim (is_live a) as (λ b. AllByRecursion Counts (cond b (claim_of a ∷ claims rows) (claims rows))) [
      | true ↦ ((omega (arith, low), some, h.0.4.0), all_count rows h.1)
      | false ↦ all_count rows h.1
    ]

-- ---- a change of nodes that keeps their sizes

size_of : (b : Bool) (x y : Option Node) (m n : Node) → m.size ≡ n.size → room_of x ≡ room_of y → room_of (cond b (Some m) x) ≡ room_of (cond b (Some n) y)
size_of true x y m n e f = e
size_of false x y m n e f = f

kept_room : (g : Node → Node) → KeepsSize g → (i : ℕ) (nodes : List Node) → room_of (row_of nat_cmp node_number i (map g nodes)) ≡ room_of (row_of nat_cmp node_number i nodes)
kept_room g k i [] = refl
kept_room g k i (n ∷ nodes) =
    ap (λ j. room_of (cond (is_eq (nat_cmp i j)) (Some (g n)) (row_of nat_cmp node_number i (map g nodes)))) (k.number n)
    ∙ size_of (is_eq (nat_cmp i n.number)) _ _ (g n) n (k.size n) (kept_room g k i nodes)

pub kept_numbers : (g : Node → Node) → KeepsSize g → (nodes : List Node) (cs : List Claim) (n : ℕ) → T (fits_number (map g nodes) cs n) → T (fits_number nodes cs n)
kept_numbers g k nodes cs n h = subst (λ z. T (fits (used n cs) z)) (kept_room g k n nodes) h

-- ---- what a change of rows takes from a sum over the claims: what ends by it

part : (w : Claim → ℕ) (a b : Bool) (x y : Claim) (cs ds : List Claim) (es : List Claim) → x ≡ y → (T a → T b)
    → sum_by w cs + sum_by w es ≡ sum_by w ds → sum_by w (cond a (x ∷ cs) cs) + sum_by w (cond (b && not a) (y ∷ es) es) ≡ sum_by w (cond b (y ∷ ds) ds)
part w true true x y cs ds es e imp h = let same : w x ≡ w y = ap w e in omega (arith, h, same, sum_by-cons w x cs, sum_by-cons w y ds)
part w true false x y cs ds es e imp h = absurd (imp tt)
part w false true x y cs ds es e imp h = omega (arith, h, sum_by-cons w y es, sum_by-cons w y ds)
part w false false x y cs ds es e imp h = h

pub released_sum : (w : Claim → ℕ) (f : Allocation → Allocation) → Releases f → (rows : List Allocation) → sum_by w (claims (map f rows)) + sum_by w (ended f rows) ≡ sum_by w (claims rows)
released_sum w f r [] = refl
released_sum w f r (a ∷ rows) = part w (is_live (f a)) (is_live a) (claim_of (f a)) (claim_of a) (claims (map f rows)) (claims rows) (ended f rows) (r.same_claim a) (r.lives a) (released_sum w f r rows)
