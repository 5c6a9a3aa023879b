-- A number and its bytes: equal numbers have equal bytes.
use Rattle.std.proofs.Common.{◌≡◌, ℕ, zero, suc, ◌+◌, ◌*◌, ◌^◌, ◌<◌, ◌≤◌, List, [], ◌∷◌, length, take, refl, sym, ap, ◌∙◌, arith, inl, inr}
use Rattle.std.proofs.Math.Nat.{mul-le-mul_right, mod-eq_of_lt, mod-lt}
use Rattle.std.proofs.lemmas.Bool.{cases_lt}
use Rattle.std.proofs.lemmas.List.{append-nil, take_all}
use Rattle.std.specs.Int.{byte_at}
use Rattle.byteorder.specs.Endian.{big_from, big_bytes, big_number}
use Rattle.byteorder.specs.Numbers.{big_from-cons, big_from-lt, big_from-bytes, length-bytes_high_first}
use Rattle.fields_model.specs.Format.{IsBytes}

-- a digit below another, each with what follows it, never gives the same number
digits_below : (m x a y b : ℕ) → a < m → b < m → x < y → x * m + a ≡ y * m + b → x ≡ y
digits_below m x a y b la lb lt e =
    let top : (x + 1) * m ≤ y * m = mul-le-mul_right m (omega arith) in
    absurd (omega arith)

-- the same numbers have the same first digit
first_digit : (m x a y b : ℕ) → a < m → b < m → x * m + a ≡ y * m + b → x ≡ y
first_digit m x a y b la lb e =
    elim (cases_lt x y) [
      | inl lt ↦ digits_below m x a y b la lb lt e
      | inr le ↦ elim (cases_lt y x) [
        | inl lt ↦ sym (digits_below m y b x a lb la lt (sym e))
        | inr ge ↦ omega arith
      ]
    ]

-- and the same rest
other_digits : (m x a y b : ℕ) → x ≡ y → x * m + a ≡ y * m + b → a ≡ b
other_digits m x a y b same e = let p : x * m ≡ y * m = ap (λ (z : ℕ). z * m) same in omega arith

-- what follows a byte is bytes
rest_is_bytes : (x : ℕ) (xs : List ℕ) → IsBytes (x ∷ xs) → IsBytes xs
rest_is_bytes x xs h i = h (suc i)

-- bytes that have the same number are the same
pub same_bytes : (n : ℕ) (xs ys : List ℕ) → IsBytes xs → IsBytes ys → n ≤ length xs → n ≤ length ys → big_from 0 n xs ≡ big_from 0 n ys → take n xs ≡ take n ys
same_bytes zero xs ys fx fy lx ly e = refl
same_bytes (suc n) [] ys fx fy lx ly e = absurd (omega arith)
same_bytes (suc n) (x ∷ xs) [] fx fy lx ly e = absurd (omega arith)
same_bytes (suc n) (x ∷ xs) (y ∷ ys) fx fy lx ly e =
    let p : big_from 1 n (x ∷ xs) ≡ big_from 0 n xs = big_from-cons 0 n x xs in
    let q : big_from 1 n (y ∷ ys) ≡ big_from 0 n ys = big_from-cons 0 n y ys in
    let both : x * 256 ^ n + big_from 0 n xs ≡ y * 256 ^ n + big_from 0 n ys = ap (λ (r : ℕ). x * 256 ^ n + r) (sym p) ∙ e ∙ ap (λ (r : ℕ). y * 256 ^ n + r) q in
    let la = big_from-lt 0 n xs (rest_is_bytes x xs fx) in
    let lb = big_from-lt 0 n ys (rest_is_bytes y ys fy) in
    let heads = first_digit (256 ^ n) x (big_from 0 n xs) y (big_from 0 n ys) la lb both in
    let tails = other_digits (256 ^ n) x (big_from 0 n xs) y (big_from 0 n ys) heads both in
    let more = same_bytes n xs ys (rest_is_bytes x xs fx) (rest_is_bytes y ys fy) (omega arith) (omega arith) tails in
    rw (heads, more) refl

-- the bytes of a number are bytes
byte_at-lt : (n x : ℕ) → byte_at n x < 256
byte_at-lt zero x = mod-lt _ (omega arith)
byte_at-lt (suc n) x = mod-lt _ (omega arith)

pub big_bytes-are_bytes : (n x : ℕ) → IsBytes (big_bytes n x)
big_bytes-are_bytes zero x i = omega arith
big_bytes-are_bytes (suc n) x zero = byte_at-lt n x
big_bytes-are_bytes (suc n) x (suc i) = big_bytes-are_bytes n x i

-- the number of some bytes has those bytes
pub bytes_again : (n : ℕ) (bytes : List ℕ) → IsBytes bytes → n ≤ length bytes → big_bytes n (big_number n bytes) ≡ take n bytes
bytes_again n bytes fits le =
    let x = big_number n bytes in
    let len = length-bytes_high_first n x in
    let lt = big_from-lt 0 n bytes fits in
    let read : big_from 0 n (big_bytes n x) ≡ x = ap (big_from 0 n) (sym (append-nil (big_bytes n x))) ∙ big_from-bytes n x [] ∙ mod-eq_of_lt lt in
    let whole : take n (big_bytes n x) ≡ big_bytes n x = take_all n (big_bytes n x) (omega arith) in
    sym whole ∙ same_bytes n (big_bytes n x) bytes (big_bytes-are_bytes n x) fits (omega arith) le read
