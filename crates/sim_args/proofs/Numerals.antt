-- Texts that are numbers, and texts that are none.
use Rattle.std.proofs.Common.{◌≡◌, ◌<◌, ◌^◌, ◌&&◌, ℕ, Bool, true, false, cond, List, Option, Some, None, arith, bytes_eq, decimal, nat_lt, refl, sym}
use Rattle.std.specs.Prelude.{IfSome}
use Rattle.std.proofs.lemmas.Bool.Decides.{nat_tests}
use Rattle.std.proofs.lemmas.Fmt.{decimal_is_IsNumeral}
use Rattle.std.proofs.lemmas.Slice.Eq.{bytes_eq-Decides}
use Rattle.std.specs.Str.Parse.{digits_value}
use Rattle.sim_args.specs.Numbers.{number_in}

same_text : (text : List ℕ) → bytes_eq text text ≡ true
same_text text = (bytes_eq-Decides text text).1 refl

below : (n : ℕ) → n < 2 ^ 64 → nat_lt n (2 ^ 64) ≡ true
below n lt = go (nat_lt n (2 ^ 64)) refl
  where
    go : (b : Bool) → nat_lt n (2 ^ 64) ≡ b → b ≡ true
    go true is = refl
    go false is = absurd (grind (arith, nat_tests))

pub is_number : (word : List ℕ) (n : ℕ) → n < 2 ^ 64 → word ≡ decimal n → number_in word ≡ Some n
is_number word n lt is = rw (is, (decimal_is_IsNumeral n lt).1, same_text (decimal n), below n lt) refl

pub is_none : (word : List ℕ) → ((n : ℕ) → n < 2 ^ 64 → word ≡ decimal n → ⊥) → number_in word ≡ None
is_none word none = go (bytes_eq word (decimal (digits_value 10 word))) (nat_lt (digits_value 10 word) (2 ^ 64)) refl refl
  where
    go : (a b : Bool) → bytes_eq word (decimal (digits_value 10 word)) ≡ a → nat_lt (digits_value 10 word) (2 ^ 64) ≡ b
        → cond (a && b) (Some (digits_value 10 word)) None ≡ None
    go true true same small = absurd (none (digits_value 10 word) (grind (arith, nat_tests)) ((bytes_eq-Decides word (decimal (digits_value 10 word))).0 same))
    go true false same small = refl
    go false b same small = refl

-- what reads just the texts of numbers
pub reads_numbers : (word : List ℕ) (r : Option ℕ) → IfSome r (λ n. (n < 2 ^ 64) × (word ≡ decimal n)) → ((n : ℕ) → n < 2 ^ 64 → word ≡ decimal n → r ≡ Some n) → r ≡ number_in word
reads_numbers word None named read = sym (is_none word (λ n lt is. let bad : None ≡ Some n = read n lt is in cc))
reads_numbers word (Some n) named read = sym (is_number word n named.0 named.1)
