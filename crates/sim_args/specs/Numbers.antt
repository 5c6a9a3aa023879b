-- Numbers in the words of a command line, with no sign and no zero in front.
use Rattle.std.specs.Prelude.{◌≡◌, ◌==◌, ◌^◌, ◌+◌, ◌-◌, ◌&&◌, ℕ, Bool, true, nat_le, nat_lt, if◌then◌else◌, [], ◌∷◌, Option, Some, None, is_some, decimal, option_and_then}
use Rattle.std.specs.Str.{bytes_eq}
use Rattle.std.specs.Str.Parse.{digits_value}
use Rattle.std.specs.List.{after_first, before_first}
use Rattle.clap.specs.Words.{Text}
use Rattle.sim_args.specs.declared.command.KeyRange.{KeyRange}

-- the number below 2^64 of which this is the text in decimal, if it is one's
abbrev pub number_in : Text → Option ℕ
number_in word =
    let n = digits_value 10 word in
    if bytes_eq word (decimal n) && nat_lt n (2 ^ 64) then Some n else None

-- the same, if it is from the one limit to the other
abbrev pub number_within : ℕ → ℕ → Text → Option ℕ
number_within low high word =
    option_and_then (λ n. if nat_le low n && nat_le n high then Some n else None) (number_in word)

-- what is said by a word that may be left out
abbrev pub IsGiven : ℕ → ℕ → Option Text → Option ℕ → Type 0
IsGiven low high None value = value ≡ None
IsGiven low high (Some word) value = (n : ℕ) × (number_within low high word ≡ Some n) × (value ≡ Some n)

-- whether something is said by it, or it is left out
abbrev pub is_given_well : ℕ → ℕ → Option Text → Bool
is_given_well low high None = true
is_given_well low high (Some word) = is_some (number_within low high word)

-- what stands behind a dot (46) in front
abbrev pub behind_dot : Text → Option Text
behind_dot [] = None
behind_dot (byte ∷ rest) = if byte == 46 then Some rest else None

-- the keys from the one to the other, which is not below it, and at most 999,999 above it
abbrev pub keys_between : Option ℕ → Option ℕ → Option KeyRange
keys_between None last = None
keys_between (Some first) None = None
keys_between (Some first) (Some last) =
    if nat_le first last && nat_le (last - first) 999999 then Some (record { first = first; count = last - first + 1 }) else None

-- the keys that a word of the form `A..B` says
abbrev pub keys_in : Text → Option KeyRange
keys_in word =
    option_and_then (λ last. keys_between (number_in (before_first (λ b. b == 46) word)) (number_in last))
    (behind_dot (after_first (λ b. b == 46) word))
