-- How the sums change as one allocation's row is made or replaced.
use Rattle.std.proofs.Common.{◌≡◌, ℕ, ◌+◌, ◌-◌, ◌*◌, ◌<◌, ◌≤◌, length, ◌∷◌, Bool, true, false, cond, T, List, [], Some, refl, sym, ap, replicate, ◌∙◌, ◌^◌, arith, get_or}
use Rattle.std.specs.Prelude.{sum_by, nat_eq}
use Rattle.std.specs.List.{AllByRecursion}
use Rattle.std.proofs.lemmas.List.{get_or-replicate}
use Rattle.std.proofs.lemmas.List.Sums.{sum_by-cons}
use Rattle.rows.specs.declared.size.Size.{Size}
use Rattle.rows.specs.declared.allocation.Allocation.{Allocation}
use Rattle.rows.specs.Sizes.{Part, amount, no_size}
use Rattle.rows.proofs.SizeLaws.{amount_by, size_by, size_small}
use Rattle.rows.specs.Fits.{AllocationFits, SizeFits}
use Rattle.rows.specs.Rising.{is_rising}
use Rattle.fsm_tables.specs.Rows.{row_of, put}
use Rattle.fsm_tables.proofs.RowLaws.{sum_by-put}
use Rattle.rows.specs.Keys.{alloc_cmp, alloc_id}
use Rattle.rows.proofs.KeyLaws.{alloc_cmp_total}
use Rattle.fsm_tables.specs.Claims.{Claim, claim_of, claims, on_node, used, is_live}
use Rattle.fsm_tables.proofs.Uses.{use_is}
use Rattle.fsm_tables.specs.Inner.Sums.{AreSummed, weight_of, weight, sum_at, share_at, IsShare, AreMore, AreLess}
use Rattle.fsm_tables.specs.declared.usage.Share.{Share}

more : (w : Claim → ℕ) (c : Claim) (b : Bool) (cs : List Claim) (n : ℕ) → sum_by w cs ≡ n → sum_by w (cond b (c ∷ cs) cs) ≡ cond b (w c) 0 + n
more w c true cs n e = omega (arith, sum_by-cons w c cs)
more w c false cs n e = omega arith

sum_of_claims : (w : Claim → ℕ) (rows : List Allocation) → sum_by w (claims rows) ≡ sum_by (weight w) rows
sum_of_claims w [] = refl
sum_of_claims w (a ∷ rows) = more w (claim_of a) (is_live a) (claims rows) _ (sum_of_claims w rows) ∙ sym (sum_by-cons (weight w) a rows)

-- a sum over the claims changes by the row put and the row replaced
pub used_put : (w : Claim → ℕ) (a : Allocation) (rows : List Allocation) → T (is_rising alloc_cmp alloc_id rows)
    → sum_by w (claims (put alloc_cmp alloc_id a rows)) + weight_of (weight w) (row_of alloc_cmp alloc_id a.id rows) ≡ sum_by w (claims rows) + weight w a
used_put w a rows h =
    let new : sum_by w (claims (put alloc_cmp alloc_id a rows)) ≡ sum_by (weight w) (put alloc_cmp alloc_id a rows) = sum_of_claims w (put alloc_cmp alloc_id a rows) in
    let old : sum_by w (claims rows) ≡ sum_by (weight w) rows = sum_of_claims w rows in
    let one = sum_by-put alloc_cmp alloc_id alloc_cmp_total (weight w) a rows h in
    ap (λ (n : ℕ). n + weight_of (weight w) (row_of alloc_cmp alloc_id a.id rows)) new ∙ one ∙ ap (λ (n : ℕ). n + weight w a) (sym old)

-- ---- bounds

at_most : (b : Bool) (x : ℕ) → x ≤ 1000000 → cond b x 0 ≤ 1000000
at_most true x h = h
at_most false x h = omega arith

sum_bound : (p : Part) (n : ℕ) (rows : List Allocation) → AllByRecursion AllocationFits rows → sum_by (on_node n p) (claims rows) ≤ length rows * 1000000
sum_bound p n [] h = omega arith
sum_bound p n (a ∷ rows) h =
    let rest : sum_by (on_node n p) (claims rows) ≤ length rows * 1000000 = sum_bound p n rows h.1 in
    let one : cond (is_live a) (on_node n p (claim_of a)) 0 ≤ 1000000 = at_most (is_live a) _ (at_most (nat_eq a.node n) (amount p a.size) (size_small a.size h.0.5 p)) in
    let all = more (on_node n p) (claim_of a) (is_live a) (claims rows) _ refl in
    omega (arith, all)

-- ---- one put

part_summed : (rows : List Allocation) (sums : List Size) → AreSummed rows sums → (p : Part) (n : ℕ) → n < 65 → sum_at sums n p ≡ sum_by (on_node n p) (claims rows)
part_summed rows sums s p n lt = ap (amount p) (s n lt) ∙ use_is p n (claims rows)

summed_by_parts : (rows : List Allocation) (sums : List Size) → ((p : Part) (n : ℕ) → n < 65 → sum_at sums n p ≡ sum_by (on_node n p) (claims rows)) → AreSummed rows sums
summed_by_parts rows sums h n lt = size_by (get_or sums n no_size) (used n (claims rows)) (λ p. h p n lt ∙ sym (use_is p n (claims rows)))

balanced : (new mid old less gain sum_new sum less' gain' : ℕ) → mid ≡ old + gain → new ≡ mid - less → old ≡ sum → sum_new + less' ≡ sum + gain' → less ≡ less' → gain ≡ gain' → new ≡ sum_new
balanced new mid old less gain sum_new sum less' gain' a b c d e f = omega arith

-- once a row is put, its share added and that of the row before taken off, each sum is its node's
-- use again
pub summed_put : (a : Allocation) (rows : List Allocation) (old mid new : List Size) (to from : Share) → AreSummed rows old → T (is_rising alloc_cmp alloc_id rows)
    → IsShare (Some a) to → IsShare (row_of alloc_cmp alloc_id a.id rows) from → AreMore to old mid → AreLess from mid new → AreSummed (put alloc_cmp alloc_id a rows) new
summed_put a rows old mid new to from s rising t f more_by less_by = summed_by_parts (put alloc_cmp alloc_id a rows) new (λ p n lt.
    let given : sum_at mid n p ≡ sum_at old n p + share_at to n p = more_by p n lt in
    let taken : sum_at new n p ≡ sum_at mid n p - share_at from n p = less_by p n lt in
    balanced _ _ _ _ _ _ _ _ _ given taken (part_summed rows old s p n lt) (used_put (on_node n p) a rows rising) (f.adds p n) (t.adds p n))

-- and the sum has room for more
pub room : (rows : List Allocation) (old : List Size) (to : Share) → AreSummed rows old → AllByRecursion AllocationFits rows → length rows ≤ 65536 → to.node < 65 → ((p : Part) → amount p to.size ≤ 1000000)
    → (p : Part) → sum_at old to.node p + amount p to.size < 2 ^ 64
room rows old to s fit few place small p =
    let sum : sum_at old to.node p ≡ sum_by (on_node to.node p) (claims rows) = part_summed rows old s p to.node place in
    let bound : sum_by (on_node to.node p) (claims rows) ≤ length rows * 1000000 = sum_bound p to.node rows fit in
    let le : amount p to.size ≤ 1000000 = small p in
    omega (arith, sum, bound, le, few)

-- ---- no rows

none_at : (n : ℕ) → n < 65 → get_or (replicate 65 no_size) n no_size ≡ no_size
none_at n lt = get_or-replicate 65 n no_size no_size lt

pub none_summed : AreSummed [] (replicate 65 no_size)
none_summed n lt = none_at n lt

-- ---- sums of all rows, added up in one walk

-- but for the rows that are left, each node's sum is its use
abbrev pub AreSummedBut : List Allocation → List Allocation → List Size → Type 0
AreSummedBut left rows sums = (p : Part) (n : ℕ) → n < 65 → sum_at sums n p + sum_by (on_node n p) (claims left) ≡ sum_by (on_node n p) (claims rows)

pub summed_begin : (rows : List Allocation) → AreSummedBut rows rows (replicate 65 no_size)
summed_begin rows p n lt = let none : sum_at (replicate 65 no_size) n p ≡ 0 = ap (amount p) (none_at n lt) ∙ amount_by p (λ q. 0) in omega (arith, none)

pub summed_end : (rows : List Allocation) (sums : List Size) → AreSummedBut [] rows sums → AreSummed rows sums
summed_end rows sums s = summed_by_parts rows sums (λ p n lt. let all : sum_at sums n p + 0 ≡ sum_by (on_node n p) (claims rows) = s p n lt in omega (arith, all))

-- one more row
pub summed_step : (rows rest : List Allocation) (a : Allocation) (old new : List Size) (to : Share) → AreSummedBut (a ∷ rest) rows old → IsShare (Some a) to → AreMore to old new → AreSummedBut rest rows new
summed_step rows rest a old new to s t more_by p n small =
    let w = on_node n p in
    let before : sum_at old n p + sum_by w (claims (a ∷ rest)) ≡ sum_by w (claims rows) = s p n small in
    let one : sum_at new n p ≡ sum_at old n p + share_at to n p = more_by p n small in
    let gain : share_at to n p ≡ weight w a = t.adds p n in
    let left : sum_by w (claims (a ∷ rest)) ≡ weight w a + sum_by w (claims rest) = more w (claim_of a) (is_live a) (claims rest) _ refl in
    omega (arith, before, one, gain, left)

-- and each has room for one more
pub room_left : (left rows : List Allocation) (old : List Size) (to : Share) → AreSummedBut left rows old → AllByRecursion AllocationFits rows → length rows ≤ 65536 → to.node < 65 → ((p : Part) → amount p to.size ≤ 1000000)
    → (p : Part) → sum_at old to.node p + amount p to.size < 2 ^ 64
room_left left rows old to s fit few place small p =
    let sum : sum_at old to.node p + sum_by (on_node to.node p) (claims left) ≡ sum_by (on_node to.node p) (claims rows) = s p to.node place in
    let bound : sum_by (on_node to.node p) (claims rows) ≤ length rows * 1000000 = sum_bound p to.node rows fit in
    let le : amount p to.size ≤ 1000000 = small p in
    omega (arith, sum, bound, le, few)

-- ---- a row's share

either_way : (a b : Bool) (x : ℕ) → cond a (cond b x 0) 0 ≡ cond b (cond a x 0) 0
either_way true true x = refl
either_way true false x = refl
either_way false true x = refl
either_way false false x = refl

part_of : (p : Part) (b : Bool) (z : Size) → amount p (cond b z no_size) ≡ cond b (amount p z) 0
part_of p true z = refl
part_of p false z = amount_by p (λ q. 0)

pub share_is : (a : Allocation) (s : Share) → a.node ≤ 64 → SizeFits a.size → s.node ≡ a.node → s.size ≡ cond (is_live a) a.size no_size → IsShare (Some a) s
share_is a s place fits n z =
    let part : (p : Part) → amount p s.size ≡ cond (is_live a) (amount p a.size) 0 = λ p. ap (amount p) z ∙ part_of p (is_live a) a.size in
    record {
      place = omega (arith, place, n);
      small = λ p. rw (part p) (at_most (is_live a) (amount p a.size) (size_small a.size fits p));
      adds = λ p k. rw (n, part p) (either_way (nat_eq a.node k) (is_live a) (amount p a.size));
    }
