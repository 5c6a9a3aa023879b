-- Tables told by their look-ups: the rows that are put are those of the later table.
use Rattle.std.proofs.Common.{◌≡◌, ℕ, Bool, true, false, cond, ◌||◌, T, List, [], ◌∷◌, map, filter, length, Option, Some, None, refl, sym, ap, subst, ◌∙◌}
use Rattle.std.specs.Prelude.{nat_lt}
use Rattle.std.specs.List.{AllByRecursion, list_any}
use Rattle.std.specs.declared.cmp.Ordering.{Ordering}
use Rattle.std.specs.declared.cmp.Ordering.TheVariants.{Less, Equal, Greater}
use Rattle.std.specs.Ordering.{is_eq}
use Rattle.std.specs.Cmp.{IsTotalOrder, tied_itself}
use Rattle.rows.specs.Rising.{is_rising}
use Rattle.fsm_tables.specs.Rows.{row_of, has_row, put, put_within}
use Rattle.fsm_tables.proofs.RowLaws.{first, second, none_below, below_tied, row_of-put, rising_put}
use Rattle.fsm_tables.proofs.SetLaws.{same_rows}
use Rattle.fsm_tables.proofs.ReservedTables.{found_tied}
use Rattle.fsm_state.proofs.StepLaws.{row_tied}

module _ {K X : Type 0} (R : K → K → Ordering) (key : X → K) where
  module _ (o : IsTotalOrder R) where
    -- a row that is found is found under its own key
    pub found_again : (k : K) (r : X) (ys : List X) → row_of R key k ys ≡ Some r → row_of R key (key r) ys ≡ Some r
    found_again k r ys e = sym (row_tied R key o k (key r) (found_tied R key o k ys r e) ys) ∙ e

    -- one row after the other is put
    abbrev pub puts : List X → List X → List X
    puts [] ys = ys
    puts (x ∷ xs) ys = puts xs (put R key x ys)

    pub rising_puts : (xs ys : List X) → T (is_rising R key ys) → T (is_rising R key (puts xs ys))
    rising_puts [] ys h = h
    rising_puts (x ∷ xs) ys h = rising_puts xs (put R key x ys) (rising_put R key o x ys h)

    -- what no row of these has
    abbrev pub Else : List X → List X → List X → Type 0
    Else xs before after = (k : K) → list_any (λ x. is_eq (R k (key x))) xs ≡ false → row_of R key k after ≡ row_of R key k before

    -- one row less to tell of
    pub else_put : (x : X) (xs before after : List X) → row_of R key (key x) after ≡ Some x → Else (x ∷ xs) before after → Else xs (put R key x before) after
    else_put x xs before after here others k none =
        elim (R k (key x)) as (λ r. R k (key x) ≡ r → (is_eq r || list_any (λ y. is_eq (R k (key y))) xs ≡ false → row_of R key k after ≡ row_of R key k before) → row_of R key k after ≡ cond (is_eq r) (Some x) (row_of R key k before)) [
          | Less ↦ λ e rest. rest none
          | Equal ↦ λ e rest. row_tied R key o k (key x) e after ∙ here
          | Greater ↦ λ e rest. rest none
        ] refl (others k)
        ∙ sym (row_of-put R key o k x before)

    -- put into the earlier table they make the later one
    pub puts_all : (xs before after : List X) → T (is_rising R key before) → T (is_rising R key after) → AllByRecursion (λ x. row_of R key (key x) after ≡ Some x) xs → Else xs before after → puts xs before ≡ after
    puts_all [] before after g h each others = same_rows R key o before after g h (λ k. sym (others k refl))
    puts_all (x ∷ xs) before after g h each others = puts_all xs (put R key x before) after (rising_put R key o x before g) h each.1 (else_put x xs before after each.0 others)

    -- a row that a table may have no room for
    pub put_or_none : (most : ℕ) (x : X) (ys : List X) (P : Option X → List X → Type 0) → P (Some x) (put R key x ys) → P None ys → P (row_of R key (key x) (put_within R key most x ys)) (put_within R key most x ys)
    put_or_none most x ys P some none =
        elim (has_row R key (key x) ys) as (λ b. has_row R key (key x) ys ≡ b → P (row_of R key (key x) (cond (b || nat_lt (length ys) most) (put R key x ys) ys)) (cond (b || nat_lt (length ys) most) (put R key x ys) ys)) [
          | true ↦ λ e. subst (λ (m : Option X). P m (put R key x ys)) (sym here) some
          | false ↦ λ e. elim (nat_lt (length ys) most) as (λ b. P (row_of R key (key x) (cond b (put R key x ys) ys)) (cond b (put R key x ys) ys)) [
            | true ↦ subst (λ (m : Option X). P m (put R key x ys)) (sym here) some
            | false ↦ subst (λ (m : Option X). P m ys) (sym (missing (row_of R key (key x) ys) e)) none
          ]
        ] refl
      where
        here : row_of R key (key x) (put R key x ys) ≡ Some x
        here = row_of-put R key o (key x) x ys ∙ ap (λ r. cond (is_eq r) (Some x) (row_of R key (key x) ys)) (tied_itself o (key x))

        missing : (m : Option X) → (elim m as (λ _. Bool) [ None ↦ false | Some y ↦ true ]) ≡ false → m ≡ None
        missing None e = refl
        missing (Some y) e = absurd cc

-- what is made of a row, or of none
abbrev pub made_of : {A B : Type 0} → (A → B) → Option A → Option B
made_of f None = None
made_of f (Some x) = Some (f x)

-- what is made of rows, at a look-up
pub row_of-map : {K A B : Type 0} (R : K → K → Ordering) (ka : A → K) (kb : B → K) (make : A → B) → ((x : A) → kb (make x) ≡ ka x) → (k : K) (xs : List A) → row_of R kb k (map make xs) ≡ made_of make (row_of R ka k xs)
row_of-map R ka kb make same k [] = refl
row_of-map R ka kb make same k (x ∷ xs) =
    ap (λ q. cond (is_eq (R k q)) (Some (make x)) (row_of R kb k (map make xs))) (same x)
    ∙ elim (is_eq (R k (ka x))) as (λ b. cond b (Some (make x)) (row_of R kb k (map make xs)) ≡ made_of make (cond b (Some x) (row_of R ka k xs))) [
      | true ↦ refl
      | false ↦ row_of-map R ka kb make same k xs
    ]

-- what is made of the rows that pass a test, at a look-up
module _ {K A B : Type 0} (R : K → K → Ordering) (ka : A → K) (kb : B → K) (make : A → B) (same : (x : A) → kb (make x) ≡ ka x) (keep : A → Bool) (o : IsTotalOrder R) where
  abbrev pub kept : Option A → Option B
  kept None = None
  kept (Some x) = cond (keep x) (Some (make x)) None

  pub row_of-kept : (k : K) (xs : List A) → T (is_rising R ka xs) → row_of R kb k (map make (filter keep xs)) ≡ kept (row_of R ka k xs)
  row_of-kept k [] h = refl
  row_of-kept k (x ∷ xs) h =
      elim (keep x) as (λ b. keep x ≡ b → row_of R kb k (map make (cond b (x ∷ filter keep xs) (filter keep xs))) ≡ kept (row_of R ka k (x ∷ xs))) [
        | true ↦ λ e.
            ap (λ q. cond (is_eq (R k q)) (Some (make x)) (row_of R kb k (map make (filter keep xs)))) (same x)
            ∙ elim (is_eq (R k (ka x))) as (λ b. cond b (Some (make x)) (row_of R kb k (map make (filter keep xs))) ≡ kept (cond b (Some x) (row_of R ka k xs))) [
              | true ↦ sym (ap (λ b. cond b (Some (make x)) None) e)
              | false ↦ row_of-kept k xs (second _ _ h)
            ]
        | false ↦ λ e.
            row_of-kept k xs (second _ _ h)
            ∙ elim (R k (ka x)) as (λ r. R k (ka x) ≡ r → kept (row_of R ka k xs) ≡ kept (cond (is_eq r) (Some x) (row_of R ka k xs))) [
              | Less ↦ λ p. refl
              | Equal ↦ λ p.
                  ap kept (none_below R ka o k xs (below_tied R ka o k (ka x) xs p (first _ _ h)))
                  ∙ sym (ap (λ b. cond b (Some (make x)) None) e)
              | Greater ↦ λ p. refl
            ] refl
      ] refl
