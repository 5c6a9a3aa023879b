-- What holds of each part of a size holds of the size.
use Rattle.std.proofs.Common.{ℕ, ◌≤◌, ◌≡◌, ◌+◌, ◌-◌, Bool, true, false, ◌&&◌, T, List, refl, ap, ◌∙◌, arith}
use Rattle.std.specs.Prelude.{nat_le, nat_eq, sum_by}
use Rattle.rows.specs.declared.size.Size.{Size}
use Rattle.rows.specs.Sizes.{Part, Cpu, Mem, Disk, amount, by_parts, in_each_part, no_size, plus, less, total, fits, same_size}
use Rattle.rows.specs.Fits.{SizeFits}

-- ---- sizes

pub amount_by : (p : Part) (f : Part → ℕ) → amount p (by_parts f) ≡ f p
amount_by Cpu f = refl
amount_by Mem f = refl
amount_by Disk f = refl

pub size_by : (a b : Size) → ((p : Part) → amount p a ≡ amount p b) → a ≡ b
size_by a b h = λ i. record { cpu = h Cpu i; mem = h Mem i; disk = h Disk i }

pub amount_of_total : {A : Type 0} (p : Part) (f : A → Size) (xs : List A) → amount p (total f xs) ≡ sum_by (λ x. amount p (f x)) xs
amount_of_total p f xs = amount_by p (λ q. sum_by (λ x. amount q (f x)) xs)

-- a part of a sum, and of what is left
pub amount_of_plus : (p : Part) (a b : Size) → amount p (plus a b) ≡ amount p a + amount p b
amount_of_plus p a b = amount_by p (λ q. amount q a + amount q b)

pub amount_of_less : (p : Part) (a b : Size) → amount p (less a b) ≡ amount p a - amount p b
amount_of_less p a b = amount_by p (λ q. amount q a - amount q b)

pub plus_nothing : (a : Size) → plus a no_size ≡ a
plus_nothing a = size_by (plus a no_size) a (λ p. let all = amount_of_plus p a no_size in let none : amount p no_size ≡ 0 = amount_by p (λ q. 0) in omega (arith, all, none))

-- ---- tests

both : (a b : Bool) → T a → T b → T (a && b)
both true b g h = h
both false b g h = g

first : (a b : Bool) → T (a && b) → T a
first true b h = tt
first false b h = h

second : (a b : Bool) → T (a && b) → T b
second true b h = h
second false b h = absurd h

pub each_part : (f : Part → Bool) → ((p : Part) → T (f p)) → T (in_each_part f)
each_part f h = both (f Cpu && f Mem) (f Disk) (both (f Cpu) (f Mem) (h Cpu) (h Mem)) (h Disk)

pub of_each_part : (f : Part → Bool) → T (in_each_part f) → (p : Part) → T (f p)
of_each_part f h Cpu = first (f Cpu) (f Mem) (first (f Cpu && f Mem) (f Disk) h)
of_each_part f h Mem = second (f Cpu) (f Mem) (first (f Cpu && f Mem) (f Disk) h)
of_each_part f h Disk = second (f Cpu && f Mem) (f Disk) h

pub same_in_each : (f g : Part → Bool) → ((p : Part) → f p ≡ g p) → in_each_part f ≡ in_each_part g
same_in_each f g h = λ i. h Cpu i && h Mem i && h Disk i

four : (a b c d : Bool) → (a && b && (c && d)) ≡ ((a && c) && (b && d))
four true true true d = refl
four true true false d = refl
four true false true d = refl
four true false false d = refl
four false b c d = refl

pub both_in_each : (f g : Part → Bool) → (in_each_part f && in_each_part g) ≡ in_each_part (λ p. f p && g p)
both_in_each f g = four (f Cpu && f Mem) (f Disk) (g Cpu && g Mem) (g Disk) ∙ ap (λ two. two && (f Disk && g Disk)) (four (f Cpu) (f Mem) (g Cpu) (g Mem))

T-le : (a b : ℕ) → T (nat_le a b) → a ≤ b
T-le a b h = grind arith

le-T : (a b : ℕ) → a ≤ b → T (nat_le a b)
le-T a b h = grind arith

pub fits_of : (a b : Size) → ((p : Part) → amount p a ≤ amount p b) → T (fits a b)
fits_of a b h = each_part (λ p. nat_le (amount p a) (amount p b)) (λ p. le-T (amount p a) (amount p b) (h p))

pub of_fits : (a b : Size) → T (fits a b) → (p : Part) → amount p a ≤ amount p b
of_fits a b h p = T-le (amount p a) (amount p b) (of_each_part (λ q. nat_le (amount q a) (amount q b)) h p)

-- what is less in each part still fits
pub less_fits : (a b c : Size) → ((p : Part) → amount p a ≤ amount p b) → T (fits b c) → T (fits a c)
less_fits a b c le h = fits_of a c (λ p. let here = le p in let room = of_fits b c h p in omega (arith, here, room))

number_itself : (n : ℕ) → T (nat_eq n n)
number_itself n = grind arith

pub size_itself : (a : Size) → T (same_size a a)
size_itself a = each_part (λ p. nat_eq (amount p a) (amount p a)) (λ p. number_itself (amount p a))

-- no part of a size that is within its ranges is past 1,000,000
pub size_small : (z : Size) → SizeFits z → (p : Part) → amount p z ≤ 1000000
size_small z h Cpu = h.0.1
size_small z h Mem = h.1.1
size_small z h Disk = h.2
