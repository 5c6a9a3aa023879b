-- What is kept of the rows that pass a test: a key of each, and more that the rows do not tell.
use Rattle.std.proofs.Common.{◌≡◌, T, List, [], ◌∷◌, map, filter, Bool, Option, refl, sym, ap, ◌∙◌}
use Rattle.std.specs.declared.cmp.Ordering.{Ordering}
use Rattle.std.specs.Cmp.{IsTotalOrder}
use Rattle.rows.specs.Rising.{is_rising}
use Rattle.fsm_tables.specs.Rows.{row_of}
use Rattle.leader.proofs.Tables.{made_of, row_of-map, kept, row_of-kept}

module _ {K A B Q : Type 0} (R : K → K → Ordering) (ka : A → K) (kb : B → K) (kq : Q → K) (qa : A → Q) (qb : B → Q) (same_a : (a : A) → kq (qa a) ≡ ka a) (same_b : (b : B) → kq (qb b) ≡ kb b) (keep : A → Bool) (o : IsTotalOrder R) where
  -- of these rows
  abbrev pub Of : List A → List B → Type 0
  Of rows held = map qb held ≡ map qa (filter keep rows)

  -- what is held under a key, and the row of that key
  pub held_at : (k : K) (rows : List A) (held : List B) → T (is_rising R ka rows) → Of rows held → made_of qb (row_of R kb k held) ≡ kept R ka kq qa same_a keep o (row_of R ka k rows)
  held_at k rows held h of = sym (row_of-map R kb kq qb same_b k held) ∙ ap (row_of R kq k) of ∙ row_of-kept R ka kq qa same_a keep o k rows h

  module _ (carry : A → Option B → B) where
    -- over any rows it is of them
    pub of_rows : ((a : A) (m : Option B) → qb (carry a m) ≡ qa a) → (find : A → Option B) (rows : List A) → Of rows (map (λ a. carry a (find a)) (filter keep rows))
    of_rows keeps find rows = go (filter keep rows) where
      go : (xs : List A) → map qb (map (λ a. carry a (find a)) xs) ≡ map qa xs
      go [] = refl
      go (x ∷ xs) = λ i. keeps x (find x) i ∷ go xs i
