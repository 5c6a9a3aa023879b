-- The bytes of a name are ASCII, and so a text.
use Rattle.std.proofs.Common.{◌≡◌, ℕ, zero, suc, ◌<◌, true, ◌&&◌, ◌||◌, List, [], ◌∷◌, arith, leb, eqb, inl, inr}
use Rattle.std.specs.Cmp.{first_so, second_so}
use Rattle.std.specs.List.{list_all}
use Rattle.std.specs.Str.{IsAscii}
use Rattle.std.specs.Prelude.{IsUtf8}
use Rattle.std.proofs.lemmas.Bool.{leb-true, eqb-true, or_cases}
use Rattle.std.proofs.lemmas.Str.{IsUtf8-from_ascii}
use Rattle.rows.specs.Names.{is_name_byte, NameFits}

byte_is_ascii : (b : ℕ) → is_name_byte b ≡ true → b < 128
byte_is_ascii b e =
    elim (or_cases ((leb 97 b && leb b 122) || (leb 48 b && leb b 57)) (eqb b 45) e) [
      | inl sign ↦ elim (or_cases (leb 97 b && leb b 122) (leb 48 b && leb b 57) sign) [
        | inl letter ↦ let le = leb-true b 122 (second_so (leb 97 b) (leb b 122) letter) in omega arith
        | inr digit ↦ let le = leb-true b 57 (second_so (leb 48 b) (leb b 57) digit) in omega arith
      ]
      | inr dash ↦ let is = eqb-true b 45 dash in omega arith
    ]

all_ascii : (s : List ℕ) → list_all is_name_byte s ≡ true → IsAscii s
all_ascii [] all i = omega arith
all_ascii (b ∷ bs) all zero = byte_is_ascii b (first_so (is_name_byte b) (list_all is_name_byte bs) all)
all_ascii (b ∷ bs) all (suc i) = all_ascii bs (second_so (is_name_byte b) (list_all is_name_byte bs) all) i

pub name_is_text : (s : List ℕ) → NameFits s → IsUtf8 s
name_is_text s fits = IsUtf8-from_ascii s (all_ascii s fits.2)
