-- Numbers of one digit, and how a number's text begins.
use Rattle.std.proofs.Common.{◌≡◌, ◌∙◌, ◌<◌, ◌≤◌, ◌+◌, ◌^◌, ◌∷◌, [], ℕ, zero, suc, List, Option, None, Some, Result, Ok, Err, ap, arith, decimal, get_or, inl, inr, length, sym}
use Rattle.std.specs.Option.{IfSome}
use Rattle.std.specs.Result.{IfOk}
use Rattle.std.specs.Str.Parse.{AllDigits, ParsesUnsigned, digits_value}
use Rattle.std.proofs.lemmas.Fmt.{decimal-digits_value, decimal_digit, decimal_is_IsNumeral, decimal_nonempty, first_decimal}
use Rattle.std.proofs.lemmas.Str.Parse.{IsNumeralModel, not_in_digits, numerals_by_value, parse_plain, tells_digits}
use Rattle.event_texts.specs.Inner.Plain.{IsPadded}

pub server_digit : (server : ℕ) → server < 5 → decimal (server + 1) ≡ (48 + (server + 1)) ∷ []
server_digit server lt = decimal_digit (server + 1) (omega (arith, lt))

-- the digit is that of the server of its number
pub named_digit : (r : Option ℕ) (digit number : ℕ) → digit ≡ 48 + number → IfSome r (λ s. (s + 1 ≡ number) × (number < 6))
    → IfSome r (λ server. (server < 5) × (digit ∷ [] ≡ decimal (server + 1)))
named_digit None digit number is some = tt
named_digit (Some server) digit number is some =
    let lt : server < 5 = omega (arith, some.0, some.1) in
    (lt, ap (λ b. b ∷ []) (is ∙ ap (λ n. 48 + n) (sym some.0)) ∙ sym (server_digit server lt))

-- ---- how a number's text begins

numerals : IsNumeralModel (AllDigits 10) (digits_value 10)
numerals = numerals_by_value _ tells_digits

no_zero_first : (n : ℕ) → n < 2 ^ 64 → get_or (decimal n) 0 0 ≡ 48 → 2 ≤ length (decimal n) → ⊥
no_zero_first zero lt is long =
    let one : length (decimal 0) ≡ 1 = ap length (decimal_digit 0 (omega arith)) in
    omega (arith, long, one)
no_zero_first (suc n) lt is long = omega (arith, is, first_decimal (suc n) (omega arith) lt)

pub decimal_plain : (n : ℕ) (text : List ℕ) → n < 2 ^ 64 → text ≡ decimal n → IsPadded text → ⊥
decimal_plain n text lt is (inl sign) =
    not_in_digits numerals (decimal n) 43 (decimal_is_IsNumeral n lt).0.1 (λ h. omega (arith, h)) 0 (decimal_nonempty n lt) (rw is at sign)
decimal_plain n text lt is (inr front) = no_zero_first n lt (rw is at front.0) (rw is at front.1)

pub plain_read : {E : Type 0} (text : List ℕ) (r : Result ℕ E) → ParsesUnsigned 64 10 text r → (IsPadded text → ⊥)
    → IfOk r (λ n. text ≡ decimal n)
plain_read text (Err e) parses plain = tt
plain_read {E} text (Ok n) parses plain =
    let read = parse_plain numerals {E = E} 64 text (Ok n) parses (λ sign. plain (inl sign)) in
    let alone : get_or text 0 0 ≡ 48 → length text ≡ 1 = λ is.
    omega (arith, read.0.1, λ (long : 2 ≤ length text). plain (inr (is, long))) in
    sym (ap decimal read.1 ∙ decimal-digits_value numerals text read.0.0 read.0.1 alone read.0.2)
