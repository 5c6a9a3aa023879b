-- Nodes in strictly rising number are at most 64.
use Rattle.std.proofs.Common.{◌≡◌, ℕ, ◌+◌, ◌≤◌, ◌<◌, Bool, true, false, cond, List, [], ◌∷◌, length, sym, ◌∙◌, arith, inl, inr}
use Rattle.std.proofs.lemmas.Bool.{cases_lt, le-ltb}
use Rattle.std.proofs.lemmas.Cmp.{nat_cmp_total}
use Rattle.std.specs.Cmp.{first_so, second_so}
use Rattle.std.specs.List.{AllByRecursion}
use Rattle.std.specs.Ordering.{nat_cmp, is_lt}
use Rattle.std.specs.declared.cmp.Ordering.TheVariants.{Equal, Greater}
use Rattle.rows.specs.Rising.{is_below, is_rising}
use Rattle.rows.specs.Ids.{AreRisingNodes}
use Rattle.rows.specs.Fits.{NodeIdFits}
use Rattle.rows.proofs.RisingLaws.{keeps_rising}

not_less : (b : Bool) → is_lt (cond b Equal Greater) ≡ true → ⊥
not_less true e = absurd cc
not_less false e = absurd cc

less : (a b : ℕ) → is_lt (nat_cmp a b) ≡ true → a < b
less a b e = elim (cases_lt a b) [
  | inl lt ↦ lt
  | inr le ↦ absurd (not_less _ (rw (le-ltb _ _ le) at e))
]

-- nodes above one are as many as there are numbers above it, or fewer
above : (n : ℕ) (ns : List ℕ) → n ≤ 64 → is_below nat_cmp (λ a. a) n ns ≡ true → is_rising nat_cmp (λ a. a) ns ≡ true → AllByRecursion NodeIdFits ns → n + length ns ≤ 64
above n [] le below rising all = omega (arith, le)
above n (m ∷ ms) le below rising all =
    let up = less n m (first_so (is_lt (nat_cmp n m)) (is_below nat_cmp (λ a. a) n ms) below) in
    let rest = above m ms all.0.1 (first_so (is_below nat_cmp (λ a. a) m ms) (is_rising nat_cmp (λ a. a) ms) rising) (second_so (is_below nat_cmp (λ a. a) m ms) (is_rising nat_cmp (λ a. a) ms) rising) all.1 in
    omega (arith, up, rest)

pub rising_nodes_are_few : (ns : List ℕ) → AreRisingNodes ns → AllByRecursion NodeIdFits ns → length ns ≤ 64
rising_nodes_are_few [] rise all = omega arith
rising_nodes_are_few (n ∷ ns) rise all =
    let rising = sym (keeps_rising nat_cmp nat_cmp_total (λ (a : ℕ). a) (n ∷ ns)) ∙ rise in
    let rest = above n ns all.0.1 (first_so (is_below nat_cmp (λ a. a) n ns) (is_rising nat_cmp (λ a. a) ns) rising) (second_so (is_below nat_cmp (λ a. a) n ns) (is_rising nat_cmp (λ a. a) ns) rising) all.1 in
    omega (arith, rest, all.0.0)
