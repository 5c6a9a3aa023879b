-- A wal_record, read and written step by step.
use Rattle.std.proofs.Common.{◌≡◌, ◌≢◌, ◌∙◌, ℕ, ◌+◌, ◌-◌, ◌^◌, ◌<◌, ◌≤◌, List, [], ◌∷◌, ◌++◌, true, false, eqb, length, take, drop, ap, sym, refl, arith, append_assoc, Result, Ok, Err, length-drop, length-take-le}
use Rattle.std.specs.List.{list_all}
use Rattle.std.proofs.lemmas.Bool.{eq-eqb, ne_eqb, lt-ltb, le-ltb}
use Rattle.fields_model.specs.Format.{spelled, number_at, string_at, Refuses}
use Rattle.rows.specs.declared.refusal.Refusal.{Refusal}
use Rattle.rows.specs.declared.refusal.Refusal.TheVariants as refusals
use Rattle.journal.specs.Records.{checksum, any_byte, wal_record}

all_any : (xs : List ℕ) → list_all any_byte xs ≡ true
all_any [] = refl
all_any (x ∷ xs) = all_any xs

-- what is read behind the checksum, once its length is
string_of : (bytes : List ℕ) (at size start : ℕ) → number_at 4 0 (2 ^ 32) bytes at ≡ Ok (size, start) → start + size ≤ length bytes
    → string_at 4 0 (2 ^ 32 - 1) any_byte bytes at ≡ Ok (take size (drop start bytes), start + size)
string_of bytes at size start e long = rw (e, le-ltb (length bytes) (start + size) long, all_any (take size (drop start bytes))) refl

string_short : (bytes : List ℕ) (at size start : ℕ) → number_at 4 0 (2 ^ 32) bytes at ≡ Ok (size, start) → length bytes < start + size
    → string_at 4 0 (2 ^ 32 - 1) any_byte bytes at ≡ Err at
string_short bytes at size start e short = rw (e, lt-ltb (length bytes) (start + size) short) refl

string_none : (bytes : List ℕ) (at place : ℕ) → number_at 4 0 (2 ^ 32) bytes at ≡ Err place → string_at 4 0 (2 ^ 32 - 1) any_byte bytes at ≡ Err place
string_none bytes at place e = rw e refl

pub no_sum : (bytes : List ℕ) (at place : ℕ) → number_at 8 0 (2 ^ 64) bytes at ≡ Err place → (x : ℕ) × (wal_record.read bytes at ≡ Err x)
no_sum bytes at place e = (place, rw e refl)

module _ (bytes : List ℕ) (at sum next : ℕ) (first : number_at 8 0 (2 ^ 64) bytes at ≡ Ok (sum, next)) where
  pub no_bytes : (size start : ℕ) → number_at 4 0 (2 ^ 32) bytes next ≡ Ok (size, start) → length bytes < start + size → (x : ℕ) × (wal_record.read bytes at ≡ Err x)
  no_bytes size start e short = (next, rw (first, string_short bytes next size start e short) refl)

  module _ (size start : ℕ) (second : number_at 4 0 (2 ^ 32) bytes next ≡ Ok (size, start)) (long : start + size ≤ length bytes) (payload : List ℕ) (is : payload ≡ take size (drop start bytes)) where
    pub other_sum : checksum payload ≢ sum → (x : ℕ) × (wal_record.read bytes at ≡ Err x)
    other_sum differs =
        let here : eqb sum (checksum (take size (drop start bytes))) ≡ false = ne_eqb _ _ (λ same. differs (ap checksum is ∙ sym same)) in
        (at, rw (first, string_of bytes next size start second long, here) refl)

    pub same_sum : checksum payload ≡ sum → wal_record.read bytes at ≡ Ok (payload, start + size)
    same_sum same =
        let here : eqb sum (checksum (take size (drop start bytes))) ≡ true = eq-eqb _ _ (sym same ∙ ap checksum is) in
        rw (first, string_of bytes next size start second long, here) (ap (λ p. Ok (p, start + size)) (sym is))

-- a payload has a wal_record
pub payload_fits : (payload : List ℕ) → checksum payload < 2 ^ 64 → length payload < 2 ^ 32 → wal_record.Fits payload
payload_fits payload small short =
    let same : eqb (checksum payload) (checksum payload) ≡ true = eq-eqb _ _ refl in
    (((omega arith, small), (omega arith, omega (arith, short), all_any payload)), rw same refl)

pub written : (payload old one two new : List ℕ) → one ≡ old ++ spelled 8 (checksum payload) → two ≡ one ++ spelled 4 (length payload) → new ≡ two ++ payload → new ≡ old ++ wal_record.text payload
written payload old one two new first second third =
    third ∙ ap (λ l. l ++ payload) (second ∙ ap (λ l. l ++ spelled 4 (length payload)) first)
    ∙ append_assoc (old ++ spelled 8 (checksum payload)) (spelled 4 (length payload)) payload
    ∙ append_assoc old (spelled 8 (checksum payload)) (spelled 4 (length payload) ++ payload)

-- what is refused without want of memory is at fault at a place
pub refused_at : {A : Type 0} (e : Refusal) (r : Result A ℕ) → Refuses ⊥ e r → (place : ℕ) × (r ≡ Err place)
refused_at refusals.NoMemory r given = absurd given
refused_at (refusals.Frame place) r given = (place, given)
refused_at _ r given = absurd given

pub as_long : (bytes payload : List ℕ) (start size : ℕ) → start + size ≤ length bytes → payload ≡ take size (drop start bytes) → length payload ≡ size
as_long bytes payload start size long is = ap length is ∙ length-take-le size (drop start bytes) (omega (arith, long, length-drop start bytes))
