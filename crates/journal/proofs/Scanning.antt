-- Where the next record begins, and the tails that a crash leaves.
use Rattle.std.proofs.Common.{◌≡◌, ◌∙◌, inl, inr, ℕ, ◌+◌, ◌-◌, ◌^◌, Bool, true, false, leb, MatchBool, ◌<◌, ◌≤◌, List, [], ◌∷◌, ◌++◌, Ok, length, take, drop, ap, sym, refl, arith, append_assoc, length-append, length-drop, length-take-le}
use Rattle.std.proofs.lemmas.List.{take_at, take-append-drop, take-append-le, append_cancel_left, drop-drop}
use Rattle.std.proofs.lemmas.Bool.{leb-true, leb-false}
use Rattle.std.proofs.lemmas.Bool.Decides.{leb_tells}
use Rattle.fields_model.specs.Format.{IsBytes, spelled}
use Rattle.fields_model.specs.Fields.{u32}
use Rattle.fields_model.proofs.FormatLaws.{length-spelled}
use Rattle.fields_model.proofs.FieldLaws.{u32_lawful}
use Rattle.fields_model.proofs.WholeTexts.{no_text_begins_another}
use Rattle.journal.specs.Records.{checksum, wal_record}
use Rattle.journal.specs.Tails.{MayBeTorn, short, cut}
use Rattle.journal.proofs.RecordLaws.{record_lawful, record_filled}

length_some : (xs : List ℕ) → (xs ≡ [] → ⊥) → 0 < length xs
length_some [] some = absurd (some refl)
length_some (x ∷ xs) some = omega arith

module _ (bytes : List ℕ) (fits : IsBytes bytes) (at : ℕ) where
  module _ (payload : List ℕ) (next : ℕ) (read : wal_record.read bytes at ≡ Ok (payload, next)) where
    pub one_further : at ≤ length bytes → (at < next) × (next ≤ length bytes)
    one_further le =
        let s = record_lawful.found bytes at payload next fits read in
        let some = length_some (wal_record.text payload) (record_filled payload s.fits) in
        let long = ap length s.here ∙ length-append (wal_record.text payload) (drop next bytes) in
        (omega (arith, some, s.after), omega (arith, le, s.after, long, length-drop at bytes, length-drop next bytes))

-- each beginning of a record is a tail that a crash may leave
pub beginnings_may_be_torn : (v front back : List ℕ) → wal_record.Fits v → wal_record.text v ≡ front ++ back → MayBeTorn front
beginnings_may_be_torn v front back fits is = elim (leb_tells 12 (length front)) [
  | inl t ↦
      let head = spelled 8 (checksum v) in
      let size = spelled 4 (length v) in
      let heads : length (head ++ size) ≡ 12 = length-append head size ∙ ap (λ n. n + length size) (length-spelled 8 (checksum v)) ∙ ap (λ n. 8 + n) (length-spelled 4 (length v)) in
      let whole : (head ++ size) ++ v ≡ front ++ back = append_assoc head size v ∙ is in
      let twelve : take 12 front ≡ head ++ size =
      sym (take-append-le 12 front back t.1) ∙ ap (take 12) (sym whole) ∙ take_at (head ++ size) v 12 heads in
      let rest = drop 12 front in
      let split : front ≡ head ++ (size ++ rest) = sym (take-append-drop 12 front) ∙ ap (λ l. l ++ rest) twelve ∙ append_assoc head size rest in
      let all = ap length whole ∙ length-append front back in
      let long : length rest ≤ length v = omega (arith, all, length-append (head ++ size) v, heads, length-drop 12 front) in
      cut head (length v) rest (length-spelled 8 (checksum v)) (omega (arith, fits.0.1.1)) split long
  | inr t ↦ short (omega (arith, t.1))
]

module _ (bytes : List ℕ) (at size : ℕ) (head : List ℕ) (within : at + 12 ≤ length bytes) (is : head ≡ take 4 (drop (at + 8) bytes)) (spells : spelled 4 size ≡ head) where
  cut_there : drop at bytes ≡ take 8 (drop at bytes) ++ (spelled 4 size ++ drop (at + 12) bytes)
  cut_there =
      let behind = drop (at + 8) bytes in
      let four : behind ≡ spelled 4 size ++ drop (at + 12) bytes = sym (take-append-drop 4 behind) ∙ ap (λ l. l ++ drop 4 behind) (sym is ∙ sym spells) ∙ ap (λ l. spelled 4 size ++ l) (drop-drop 4 (at + 8) bytes ∙ ap (λ n. drop n bytes) (omega arith)) in
      sym (take-append-drop 8 (drop at bytes)) ∙ ap (λ l. take 8 (drop at bytes) ++ l) (drop-drop 8 at bytes ∙ four)

  eight : length (take 8 (drop at bytes)) ≡ 8
  eight = length-take-le 8 (drop at bytes) (omega (arith, within, length-drop at bytes))

  pub is_torn : size < 2 ^ 32 → length bytes ≤ at + 12 + size → MayBeTorn (drop at bytes)
  is_torn small few = cut (take 8 (drop at bytes)) size (drop (at + 12) bytes) eight small cut_there (omega (arith, few, length-drop (at + 12) bytes))

  pub not_torn : size < 2 ^ 32 → at + 12 + size < length bytes → MayBeTorn (drop at bytes) → ⊥
  not_torn small more (short few) = omega (arith, few, within, length-drop at bytes)
  not_torn small more (cut sum other rest long fits same most) =
      let both : take 8 (drop at bytes) ++ (spelled 4 size ++ drop (at + 12) bytes) ≡ sum ++ (spelled 4 other ++ rest) = sym cut_there ∙ same in
      let first : take 8 (drop at bytes) ≡ sum = sym (take_at (take 8 (drop at bytes)) (spelled 4 size ++ drop (at + 12) bytes) 8 eight) ∙ ap (take 8) both ∙ take_at sum (spelled 4 other ++ rest) 8 long in
      let later : spelled 4 size ++ drop (at + 12) bytes ≡ spelled 4 other ++ rest = append_cancel_left sum (spelled 4 size ++ drop (at + 12) bytes) (spelled 4 other ++ rest) (ap (λ l. l ++ (spelled 4 size ++ drop (at + 12) bytes)) (sym first) ∙ both) in
      let one : size ≡ other = no_text_begins_another u32 u32_lawful size other (drop (at + 12) bytes) rest (omega arith, small) (omega arith, fits) later in
      let sizes = ap length later ∙ length-append (spelled 4 other) rest in
      omega (arith, more, most, one, sizes, length-append (spelled 4 size) (drop (at + 12) bytes), length-spelled 4 size, length-spelled 4 other, length-drop (at + 12) bytes, within)

  torn_case : (b : Bool) → size < 2 ^ 32 → leb (length bytes - at - 12) size ≡ b → MatchBool b (MayBeTorn (drop at bytes)) (MayBeTorn (drop at bytes) → ⊥)
  torn_case true small e = is_torn small (omega (arith, leb-true (length bytes - at - 12) size e, within))
  torn_case false small e = not_torn small (omega (arith, leb-false (length bytes - at - 12) size e, within))

  pub torn_by : size < 2 ^ 32 → MatchBool (leb (length bytes - at - 12) size) (MayBeTorn (drop at bytes)) (MayBeTorn (drop at bytes) → ⊥)
  torn_by small = torn_case (leb (length bytes - at - 12) size) small refl
