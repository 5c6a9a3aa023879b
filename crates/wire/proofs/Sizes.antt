-- A text behind its length: four bytes are put to the end, then the text, and then the four are
-- set.
use Rattle.std.proofs.Common.{◌≡◌, ℕ, ◌+◌, ◌<◌, ◌≤◌, ◌^◌, List, [], ◌++◌, length, take, drop, Result, Err, ap, ap₂, sym, ◌∙◌, append_assoc, arith, length-append}
use Rattle.std.proofs.lemmas.List.{append-nil}
use Rattle.std.proofs.Math.Seq.{take-append_seam, drop-append_seam}
use Rattle.std.specs.Prelude.{OnErr}
use Rattle.rows.specs.declared.refusal.NoMemory.{NoMemory}
use Rattle.fields_model.specs.Format.{Grows}
use Rattle.wire.specs.Frames.{sized}

-- four bytes at a place, the end of what stood there, and a text behind them
pub record Behind (old four text middle all : List ℕ) (at : ℕ) : Type 0 where
  pub place : at ≡ length old
  pub four_are : length four ≡ 4
  pub four_came : middle ≡ old ++ four
  pub text_came : all ≡ middle ++ text

module _ {old four text middle all : List ℕ} {at : ℕ} (behind : Behind old four text middle all at) where
  text_at : at + 4 ≡ length middle
  text_at = omega (arith, behind.place, behind.four_are, ap length behind.four_came, length-append old four)

  length_is : length all ≡ at + 4 + length text
  length_is = omega (arith, text_at, ap length behind.text_came, length-append middle text)

  pub four_inside : at + 4 ≤ length all
  four_inside = omega (arith, length_is)

  pub length_fits : length text ≤ 16777208 → length all < at + 4 + 2 ^ 32
  length_fits short = omega (arith, length_is)

  -- where the length of the text comes into the four, they and it are the sized text
  pub sized_text : (new : List ℕ) → new ≡ take at all ++ sized (drop (at + 4) all) → new ≡ old ++ sized text
  sized_text new set =
      let whole : all ≡ old ++ (four ++ text) = behind.text_came ∙ ap (λ (l : List ℕ). l ++ text) behind.four_came ∙ append_assoc old four text in
      let front : take at all ≡ old = ap₂ (λ (n : ℕ) (l : List ℕ). take n l) behind.place whole ∙ take-append_seam old (four ++ text) in
      let rest : drop (at + 4) all ≡ text = ap₂ (λ (n : ℕ) (l : List ℕ). drop n l) text_at behind.text_came ∙ drop-append_seam middle text in
      set ∙ ap₂ (λ (l r : List ℕ). l ++ sized r) front rest

-- ---- without memory: nothing came to the end, or the four and a part of the text

pub nothing_came : {old new : List ℕ} (r : Result (Unit {0}) NoMemory) → new ≡ old → OnErr r (Grows old new)
nothing_came {old} (Err e) same = ([], same ∙ sym (append-nil old))
nothing_came _ same = tt

pub part_came : (old four : List ℕ) {middle new : List ℕ} (r : Result (Unit {0}) NoMemory) → middle ≡ old ++ four → Grows middle new → OnErr r (Grows old new)
part_came old four (Err e) begun grown = (four ++ grown.0, grown.1 ∙ ap (λ (l : List ℕ). l ++ grown.0) begun ∙ append_assoc old four grown.0)
part_came old four _ begun grown = tt
