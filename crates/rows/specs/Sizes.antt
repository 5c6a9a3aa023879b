-- Sizes by parts: what is said of each part of a size, and of all of them.
use Rattle.std.specs.Prelude.{ℕ, ◌+◌, ◌-◌, ◌^◌, Bool, ◌&&◌, List, nat_le, nat_eq, min, sum_by}
use Rattle.rows.specs.declared.size.Size.{Size}

-- processor time, memory and disk
pub data Part : Type 0 where
  Cpu : Part
  Mem : Part
  Disk : Part

abbrev pub amount : Part → Size → ℕ
amount Cpu z = z.cpu
amount Mem z = z.mem
amount Disk z = z.disk

-- the size of these parts
abbrev pub by_parts : (Part → ℕ) → Size
by_parts f = record { cpu = f Cpu; mem = f Mem; disk = f Disk }

-- whether each part passes
abbrev pub in_each_part : (Part → Bool) → Bool
in_each_part f = f Cpu && f Mem && f Disk

-- ---- sums

abbrev pub no_size : Size
no_size = by_parts (λ p. 0)

abbrev pub plus : Size → Size → Size
plus a b = by_parts (λ p. amount p a + amount p b)

-- a part stays at the greatest number that is held where the sum is past it
abbrev pub plus_within : Size → Size → Size
plus_within a b = by_parts (λ p. min (amount p a + amount p b) (2 ^ 64 - 1))

-- a part of which no more is there is 0
abbrev pub less : Size → Size → Size
less a b = by_parts (λ p. amount p a - amount p b)

-- what some values take together
abbrev pub total : {A : Type 0} → (A → Size) → List A → Size
total f xs = by_parts (λ p. sum_by (λ x. amount p (f x)) xs)

-- ---- tests

-- so much is within a room
abbrev pub fits : Size → Size → Bool
fits load room = in_each_part (λ p. nat_le (amount p load) (amount p room))

abbrev pub same_size : Size → Size → Bool
same_size a b = in_each_part (λ p. nat_eq (amount p a) (amount p b))
