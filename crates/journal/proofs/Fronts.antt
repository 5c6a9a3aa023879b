-- Whether an item stands at the front of some bytes.
use Rattle.std.proofs.Common.{◌≡◌, ◌∙◌, ℕ, ◌+◌, ◌^◌, ◌<◌, ◌≤◌, List, [], ◌∷◌, ◌++◌, Ok, length, take, drop, ap, sym, refl, arith, append_assoc, append-nil, length-append, length-drop, length-take-le}
use Rattle.std.proofs.lemmas.List.{take-append-drop, drop-drop, drop_all}
use Rattle.fields_model.specs.Format.{spelled, IsBytes}
use Rattle.fields_model.specs.Fields.{u32}
use Rattle.fields_model.proofs.FormatLaws.{length-spelled}
use Rattle.fields_model.proofs.FieldLaws.{u32_lawful}
use Rattle.fields_model.proofs.WholeTexts.{no_text_begins_another}
use Rattle.wire.specs.Frames.{sized}
use Rattle.journal.specs.Items.{most_bytes, IsTooLong, of_length, of_bytes, ItemStarts}
use Rattle.journal.specs.Inner.Rests.{NoItem, no_bytes, part, long}

pub head_spells : (head : List ℕ) (size next : ℕ) → length head ≡ 4 → IsBytes head → u32.read head 0 ≡ Ok (size, next) → spelled 4 size ≡ head
head_spells head size next four bytes read =
    let at = u32_lawful.found head 0 size next bytes read in
    let long = length-spelled 4 size in
    let none : drop next head ≡ [] = drop_all next head (omega (arith, four, at.after, long)) in
    sym (at.here ∙ ap (λ l. spelled 4 size ++ l) none ∙ append-nil (spelled 4 size))

none_case : (rest : List ℕ) → length rest < 4 → NoItem rest
none_case [] few = no_bytes refl
none_case (x ∷ rest) few = part (of_length (λ none. absurd cc) few)

pub no_length : (bytes : List ℕ) (at : ℕ) → at ≤ length bytes → length bytes < at + 4 → (size : ℕ) → IsTooLong (drop at bytes) size → ⊥
no_length bytes at within few size found =
    let all = ap length found.is ∙ length-append (spelled 4 size) found.behind in
    omega (arith, within, few, all, length-drop at bytes, length-spelled 4 size)

module _ (bytes : List ℕ) (at size : ℕ) (head : List ℕ) (within : at + 4 ≤ length bytes) (is : head ≡ take 4 (drop at bytes)) (spells : spelled 4 size ≡ head) where
  split : drop at bytes ≡ spelled 4 size ++ drop (at + 4) bytes
  split = sym (take-append-drop 4 (drop at bytes)) ∙ ap (λ l. l ++ drop 4 (drop at bytes)) (sym is ∙ sym spells) ∙ ap (λ l. spelled 4 size ++ l) (drop-drop 4 at bytes ∙ ap (λ n. drop n bytes) (omega arith))

  pub is_long : most_bytes < size → size < 2 ^ 32 → IsTooLong (drop at bytes) size
  is_long more small = record { behind = drop (at + 4) bytes; is = split; long = (more, small) }

  pub none_long : most_bytes < size → size < 2 ^ 32 → NoItem (drop at bytes)
  none_long more small = long size (is_long more small)

  pub none_part : size ≤ most_bytes → length bytes < at + 4 + size → NoItem (drop at bytes)
  none_part most few = part (of_bytes size (drop (at + 4) bytes) split most (omega (arith, few, length-drop (at + 4) bytes, within)))

  pub starts : (item : List ℕ) (next : ℕ) → size ≤ most_bytes → at + 4 + size ≤ length bytes → item ≡ take size (drop (at + 4) bytes) → next ≡ at + 4 + length item
      → ItemStarts (drop at bytes) item (drop next bytes) × (at < next) × (next ≤ length bytes)
  starts item next most all whole after =
      let rest = drop (at + 4) bytes in
      let long : length item ≡ size = ap length whole ∙ length-take-le size rest (omega (arith, all, length-drop (at + 4) bytes)) in
      let place : at + 4 + size ≡ next = omega (arith, after, long) in
      let behind : rest ≡ item ++ drop next bytes = sym (take-append-drop size rest) ∙ ap (λ l. l ++ drop size rest) (sym whole) ∙ ap (λ l. item ++ l) (drop-drop size (at + 4) bytes ∙ ap (λ n. drop n bytes) place) in
      let front : spelled 4 size ++ item ≡ sized item = ap (λ n. spelled 4 n ++ item) (sym long) in (
        record {
          is = split ∙ ap (λ l. spelled 4 size ++ l) behind ∙ sym (append_assoc (spelled 4 size) item (drop next bytes)) ∙ ap (λ l. l ++ drop next bytes) front;
          short = omega (arith, long, most);
        },
        omega (arith, after),
        omega (arith, after, long, all),
      )

  -- no other length stands there
  pub not_long : size ≤ most_bytes → (other : ℕ) → IsTooLong (drop at bytes) other → ⊥
  not_long most other found =
      let same : size ≡ other = no_text_begins_another u32 u32_lawful size other (drop (at + 4) bytes) found.behind (omega arith, omega (arith, most)) (omega arith, found.long.1) (sym split ∙ found.is) in
      omega (arith, most, found.long.0, same)
