-- How high a balanced tree is: at most 22 levels of 65,536 rows, and 91 of as many as 64 bits count.
use Rattle.std.proofs.Common.{◌≡◌, ℕ, zero, suc, ◌+◌, ◌<◌, ◌≤◌, ◌-◌, ◌^◌, inl, inr, ◌∷◌, ◌++◌, length, length-append, refl, subst, arith}
use Rattle.std.specs.Prelude.{◌*◌, max}
use Rattle.std.proofs.lemmas.Bool.Decides.{leb_tells}
use Rattle.eval_broker.specs.declared.tree.Tree.{Tree, Leaf, Fork'}
use Rattle.eval_broker.specs.Inner.Trees.{tree_rows, levels, IsBalanced, fewest}

rises : (h : ℕ) → fewest h ≤ fewest (suc h)
rises zero = omega arith
rises (suc h) = omega arith

rises_to : (h k : ℕ) → fewest h ≤ fewest (k + h)
rises_to h zero = subst (λ z. fewest h ≤ fewest z) (let e : h ≡ 0 + h = omega arith in e) (omega arith)
rises_to h (suc k) = subst (λ z. fewest h ≤ fewest z) (let e : suc (k + h) ≡ suc k + h = omega arith in e) (omega (arith, rises_to h k, rises (k + h)))

-- a level more
one_level : (l r a b : ℕ) → r ≤ l → l ≤ suc r → fewest l ≤ a → fewest r ≤ b → fewest (suc l) ≤ suc (a + b)
one_level zero r a b le near few_l few_r = omega arith
one_level (suc k) r a b le near few_l few_r = elim (leb_tells r k) [
  | inl c ↦ omega (arith, few_l, subst (λ z. fewest z ≤ b) (let e : r ≡ k = omega (arith, c.1, near) in e) few_r)
  | inr c ↦ omega (arith, few_l, rises k, subst (λ z. fewest z ≤ b) (let e : r ≡ suc k = omega (arith, c.1, le) in e) few_r)
]

pub few_rows : {X : Type 0} (t : Tree X) → IsBalanced t → fewest (levels t) ≤ length (tree_rows t)
few_rows Leaf b = omega arith
few_rows (Fork' p left row height right) b =
    let l = levels left in
    let r = levels right in
    let size = length-append (tree_rows left) (row ∷ tree_rows right) in
    let on_left = few_rows left b.0 in
    let on_right = few_rows right b.1 in
    elim (leb_tells r l) [
      | inl c ↦ subst (λ z. fewest (suc z) ≤ length (tree_rows left ++ row ∷ tree_rows right)) (let e : l ≡ max l r = omega (arith, c.1) in e)
          (omega (arith, size, one_level l r (length (tree_rows left)) (length (tree_rows right)) c.1 (omega (arith, b.3.0)) on_left on_right))
      | inr c ↦ subst (λ z. fewest (suc z) ≤ length (tree_rows left ++ row ∷ tree_rows right)) (let e : r ≡ max l r = omega (arith, c.1) in e)
          (omega (arith, size, one_level r l (length (tree_rows right)) (length (tree_rows left)) (omega (arith, c.1)) (omega (arith, b.3.1)) on_right on_left))
    ]

-- eight levels more at once
eight_more : (h a b : ℕ) → fewest h ≡ a → fewest (suc h) ≡ b →
    let far = suc (suc (suc (suc (suc (suc (suc (suc h))))))) in
    (fewest far ≡ 21 * b + 13 * a + 33) × (fewest (suc far) ≡ 34 * b + 21 * a + 54)
eight_more h a b p q = (omega (arith, p, q), omega (arith, p, q))

of_23 : fewest 23 ≡ 75024
of_23 =
    let at_15 = eight_more 7 33 54 refl refl in
    (eight_more 15 _ _ at_15.0 at_15.1).0

of_92 : fewest 92 ≡ 19740274219868223166
of_92 =
    let at_12 = eight_more 4 7 12 refl refl in
    let at_20 = eight_more 12 _ _ at_12.0 at_12.1 in
    let at_28 = eight_more 20 _ _ at_20.0 at_20.1 in
    let at_36 = eight_more 28 _ _ at_28.0 at_28.1 in
    let at_44 = eight_more 36 _ _ at_36.0 at_36.1 in
    let at_52 = eight_more 44 _ _ at_44.0 at_44.1 in
    let at_60 = eight_more 52 _ _ at_52.0 at_52.1 in
    let at_68 = eight_more 60 _ _ at_60.0 at_60.1 in
    let at_76 = eight_more 68 _ _ at_68.0 at_68.1 in
    let at_84 = eight_more 76 _ _ at_76.0 at_76.1 in
    (eight_more 84 _ _ at_84.0 at_84.1).0

below : (h n most : ℕ) → fewest h ≤ n → n < fewest (suc most) → h ≤ most
below h n most few many = elim (leb_tells h most) [
  | inl c ↦ c.1
  | inr c ↦ absurd (omega (arith, few, many, subst (λ z. fewest (suc most) ≤ fewest z) (let e : (h - suc most) + suc most ≡ h = omega (arith, c.1) in e) (rises_to (suc most) (h - suc most))))
]

pub few_levels : {X : Type 0} (t : Tree X) → IsBalanced t → length (tree_rows t) ≤ 65536 → levels t ≤ 22
few_levels t b few = below (levels t) (length (tree_rows t)) 22 (few_rows t b) (omega (arith, few, of_23))

pub at_most_91 : {X : Type 0} (t : Tree X) → IsBalanced t → length (tree_rows t) < 2 ^ 64 → levels t ≤ 91
at_most_91 t b few = below (levels t) (length (tree_rows t)) 91 (few_rows t b) (omega (arith, few, of_92))
