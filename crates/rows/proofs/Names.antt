-- A name's bytes, put in front of zeros.
use Rattle.std.proofs.Common.{◌≡◌, ℕ, ◌-◌, ◌≤◌, ◌&&◌, List, ◌++◌, length, take, drop, replicate, refl, sym, arith, subst, length-append, leb, true}
use Rattle.std.specs.Cmp.{first_so, second_so}
use Rattle.std.specs.List.{list_all}
use Rattle.std.proofs.lemmas.Bool.{leb-true}
use Rattle.std.proofs.lemmas.List.{take_at, drop_at, drop-replicate, length-replicate}
use Rattle.rows.specs.Names.{is_name, is_name_byte, NameFits}

-- the test of a name is the fact
name_by_test : (s : List ℕ) → is_name s ≡ true → NameFits s
name_by_test s name =
    let letters = list_all is_name_byte s in
    let counts = first_so (leb 1 (length s) && leb (length s) 32) letters name in (
      leb-true 1 (length s) (first_so (leb 1 (length s)) (leb (length s) 32) counts),
      leb-true (length s) 32 (second_so (leb 1 (length s)) (leb (length s) 32) counts),
      second_so (leb 1 (length s) && leb (length s) 32) letters name,
    )

pub put_in_front : (s cells : List ℕ) → cells ≡ s → is_name s ≡ true
    → (length (cells ++ drop (length s) (replicate 32 0)) ≡ 32) × (length s ≤ 32) × NameFits (take (length s) (cells ++ drop (length s) (replicate 32 0)))
    × (drop (length s) (cells ++ drop (length s) (replicate 32 0)) ≡ replicate (32 - length s) 0)
put_in_front s cells e name =
    let fits = name_by_test s name in
    let none : ℕ = 0 in
    let zeros = drop-replicate (length s) 32 none in
    rw (e, zeros) (omega (arith, fits.1, length-append s (replicate (32 - length s) none), length-replicate (32 - length s) none), fits.1, subst NameFits (sym (take_at s _ (length s) refl)) fits, drop_at s _ (length s) refl)
