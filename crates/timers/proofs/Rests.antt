-- How often what comes every so many milliseconds comes.
use Rattle.std.proofs.Common.{◌≡◌, ℕ, zero, suc, ◌+◌, ◌-◌, ◌*◌, ◌%◌, ◌<◌, ◌≤◌, Bool, true, false, cond, leb, List, [], ◌∷◌, refl, sym, subst, arith}
use Rattle.std.specs.Prelude.{sum}
use Rattle.std.proofs.lemmas.Bool.{leb-true, leb-false}
use Rattle.std.proofs.Math.Nat.{mod-eq-sub-mod, mod-eq_of_lt, mod-le, mod-lt, suc-mul, zero-mul}
use Rattle.timers.proofs.Sums.{sum_cons}
use Rattle.timers.specs.declared.period.Period.{Period}
use Rattle.timers.specs.Periods.{AreWithin, ComesAsOften, ComesNoOftener, IsRunning, counted, is_due, later, rest_of, times}

-- the rest of a time of at least a whole period is at most what is behind the first
rest_behind : (every total : ℕ) → every ≤ total → rest_of every total + every ≤ total
rest_behind zero total enough = omega arith
rest_behind (suc n) total enough =
    let less : total % suc n ≡ (total - suc n) % suc n = mod-eq-sub-mod enough in
    let most : (total - suc n) % suc n ≤ total - suc n = mod-le (total - suc n) (suc n) in
    omega (arith, less, most, enough)

-- and just that where there is no second one
rest_is : (every total : ℕ) → every ≤ total → total < every + every → rest_of every total + every ≡ total
rest_is zero total enough below = omega (arith, below)
rest_is (suc n) total enough below =
    let less : total % suc n ≡ (total - suc n) % suc n = mod-eq-sub-mod enough in
    let small : total - suc n < suc n = omega (arith, below, enough) in
    let is : (total - suc n) % suc n ≡ total - suc n = mod-eq_of_lt small in
    omega (arith, less, is, enough)

rest_runs : (every total : ℕ) → zero < every → rest_of every total < every
rest_runs zero total some = omega (arith, some)
rest_runs (suc n) total some = mod-lt total some

-- ---- one item, by whether the turn comes

-- what has passed then
abbrev passed_by : Period → ℕ → Bool → ℕ
passed_by p ms b = cond b (rest_of p.every (p.passed + ms)) (p.passed + ms)

module _ (p : Period) (ms : ℕ) where
  no_more : (b : Bool) (t s : ℕ) → is_due ms p ≡ b → t * p.every ≤ passed_by p ms b + s → (counted b + t) * p.every ≤ p.passed + (ms + s)
  no_more true t s is ih =
      let enough : p.every ≤ p.passed + ms = leb-true p.every (p.passed + ms) is in
      let rest = rest_behind p.every (p.passed + ms) enough in
      let one : suc t * p.every ≡ t * p.every + p.every = suc-mul t p.every in
      let more : suc t * p.every ≤ p.passed + (ms + s) = omega (arith, one, rest, ih) in
      let same : suc t ≡ 1 + t = omega arith in
      subst (λ n. n * p.every ≤ p.passed + (ms + s)) same more
  no_more false t s is ih =
      let more : t * p.every ≤ p.passed + (ms + s) = omega (arith, ih) in
      let same : t ≡ 0 + t = omega arith in
      subst (λ n. n * p.every ≤ p.passed + (ms + s)) same more

  as_many : (b : Bool) (t s : ℕ) → is_due ms p ≡ b → IsRunning p → ms ≤ p.every → passed_by p ms b + s < suc t * p.every → p.passed + (ms + s) < suc (counted b + t) * p.every
  as_many true t s is runs short ih =
      let enough : p.every ≤ p.passed + ms = leb-true p.every (p.passed + ms) is in
      let rest = rest_is p.every (p.passed + ms) enough (omega (arith, runs, short)) in
      let one : suc (suc t) * p.every ≡ suc t * p.every + p.every = suc-mul (suc t) p.every in
      let more : p.passed + (ms + s) < suc (suc t) * p.every = omega (arith, one, rest, ih) in
      let same : suc t ≡ 1 + t = omega arith in
      subst (λ n. p.passed + (ms + s) < suc n * p.every) same more
  as_many false t s is runs short ih =
      let more : p.passed + (ms + s) < suc t * p.every = omega (arith, ih) in
      let same : t ≡ 0 + t = omega arith in
      subst (λ n. p.passed + (ms + s) < suc n * p.every) same more

  still_runs : (b : Bool) → is_due ms p ≡ b → IsRunning p → passed_by p ms b < p.every
  still_runs true is runs = rest_runs p.every (p.passed + ms) (omega (arith, runs))
  still_runs false is runs = leb-false p.every (p.passed + ms) is

pub comes_no_oftener : (p : Period) (items : List ℕ) → ComesNoOftener p items
comes_no_oftener p [] = let none : 0 * p.every ≡ 0 = zero-mul p.every in omega (arith, none)
comes_no_oftener p (ms ∷ items) =
    let more = no_more p ms (is_due ms p) (times (later ms p) items) (sum items) refl (comes_no_oftener (later ms p) items) in
    subst (λ n. times p (ms ∷ items) * p.every ≤ p.passed + n) (sym (sum_cons ms items)) more

pub comes_as_often : (p : Period) (items : List ℕ) → IsRunning p → AreWithin p.every items → ComesAsOften p items
comes_as_often p [] runs within = record { enough = let one : suc 0 * p.every ≡ 0 * p.every + p.every = suc-mul 0 p.every in let none : 0 * p.every ≡ 0 = zero-mul p.every in omega (arith, one, none, runs) }
comes_as_often p (ms ∷ items) runs within =
    let next = comes_as_often (later ms p) items (still_runs p ms (is_due ms p) refl runs) within.1 in
    let more = as_many p ms (is_due ms p) (times (later ms p) items) (sum items) refl runs within.0 next.enough in
    record { enough = subst (λ n. p.passed + n < suc (times p (ms ∷ items)) * p.every) (sym (sum_cons ms items)) more }
