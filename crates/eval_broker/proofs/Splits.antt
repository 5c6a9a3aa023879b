-- Rows in order on both sides of one of them: what is looked up, put and taken out goes to one side.
use Rattle.std.proofs.Common.{◌≡◌, Bool, true, false, cond, not, T, List, [], ◌∷◌, ◌++◌, Some, None, refl, ap, ◌∙◌}
use Rattle.std.specs.declared.cmp.Ordering.{Ordering}
use Rattle.std.specs.declared.cmp.Ordering.TheVariants.{Less, Equal, Greater}
use Rattle.std.specs.Ordering.{is_eq, ordering_reverse}
use Rattle.std.specs.Cmp.{IsTotalOrder}
use Rattle.rows.specs.Rising.{is_below, is_rising}
use Rattle.fsm_tables.specs.Rows.{by_order, row_of, put}
use Rattle.fsm_tables.specs.ReservedTables.{without}
use Rattle.fsm_tables.proofs.RowLaws.{both, first, second, less, none_below, below_less, below_tied}
use Rattle.fsm_tables.proofs.ReservedTables.{without_none}

module _ {K X : Type 0} (R : K → K → Ordering) (key : X → K) where
  below_front : (k : K) (l zs : List X) → T (is_below R key k (l ++ zs)) → T (is_below R key k l)
  below_front k [] zs h = tt
  below_front k (y ∷ l) zs h = both _ _ (first _ _ h) (below_front k l zs (second _ _ h))

  pub rising_front : (l zs : List X) → T (is_rising R key (l ++ zs)) → T (is_rising R key l)
  rising_front [] zs h = tt
  rising_front (y ∷ l) zs h = both _ _ (below_front (key y) l zs (first _ _ h)) (rising_front l zs (second _ _ h))

  pub rising_back : (l zs : List X) → T (is_rising R key (l ++ zs)) → T (is_rising R key zs)
  rising_back [] zs h = h
  rising_back (y ∷ l) zs h = rising_back l zs (second _ _ h)

  pub below_middle : (k : K) (l : List X) (x : X) (r : List X) → T (is_below R key k (l ++ x ∷ r)) → R k (key x) ≡ Less
  below_middle k [] x r h = less _ (first _ _ h)
  below_middle k (y ∷ l) x r h = below_middle k l x r (second _ _ h)

  module _ (o : IsTotalOrder R) where
    turned : (a b : K) (r : Ordering) → R a b ≡ r → R b a ≡ ordering_reverse r
    turned a b r e = o.antisymm b a ∙ ap ordering_reverse e

    -- what is not below one is above those below it
    above : (k j m : K) → R j m ≡ Less → R k m ≡ Greater → R k j ≡ Greater
    above k j m lt e = turned j k Less (o.trans j m k lt (turned k m Greater e))

    above_tied : (k j m : K) → R j m ≡ Less → R k m ≡ Equal → R k j ≡ Greater
    above_tied k j m lt e = o.congr k m j e ∙ turned j m Less lt

    past : (k : K) (y : X) (l : List X) (x : X) (r : List X) → T (is_rising R key (y ∷ l ++ x ∷ r)) → R k (key x) ≡ Greater → R k (key y) ≡ Greater
    past k y l x r h e = above k (key y) (key x) (below_middle (key y) l x r (first _ _ h)) e

    past_tied : (k : K) (y : X) (l : List X) (x : X) (r : List X) → T (is_rising R key (y ∷ l ++ x ∷ r)) → R k (key x) ≡ Equal → R k (key y) ≡ Greater
    past_tied k y l x r h e = above_tied k (key y) (key x) (below_middle (key y) l x r (first _ _ h)) e

    none_behind : (k : K) (x : X) (r : List X) → T (is_rising R key (x ∷ r)) → R k (key x) ≡ Less → row_of R key k (x ∷ r) ≡ None
    none_behind k x r h e = ap (λ o. cond (is_eq o) (Some x) (row_of R key k r)) e ∙ none_below R key o k r (below_less R key o k (key x) r e (first _ _ h))

    -- ---- looked up

    pub row_of_left : (k : K) (l : List X) (x : X) (r : List X) → T (is_rising R key (l ++ x ∷ r)) → R k (key x) ≡ Less → row_of R key k (l ++ x ∷ r) ≡ row_of R key k l
    row_of_left k [] x r h e = none_behind k x r h e
    row_of_left k (y ∷ l) x r h e = ap (cond (is_eq (R k (key y))) (Some y)) (row_of_left k l x r (second _ _ h) e)

    pub row_of_middle : (k : K) (l : List X) (x : X) (r : List X) → T (is_rising R key (l ++ x ∷ r)) → R k (key x) ≡ Equal → row_of R key k (l ++ x ∷ r) ≡ Some x
    row_of_middle k [] x r h e = ap (λ o. cond (is_eq o) (Some x) (row_of R key k r)) e
    row_of_middle k (y ∷ l) x r h e = ap (λ o. cond (is_eq o) (Some y) (row_of R key k (l ++ x ∷ r))) (past_tied k y l x r h e) ∙ row_of_middle k l x r (second _ _ h) e

    pub row_of_right : (k : K) (l : List X) (x : X) (r : List X) → T (is_rising R key (l ++ x ∷ r)) → R k (key x) ≡ Greater → row_of R key k (l ++ x ∷ r) ≡ row_of R key k r
    row_of_right k [] x r h e = ap (λ o. cond (is_eq o) (Some x) (row_of R key k r)) e
    row_of_right k (y ∷ l) x r h e = ap (λ o. cond (is_eq o) (Some y) (row_of R key k (l ++ x ∷ r))) (past k y l x r h e) ∙ row_of_right k l x r (second _ _ h) e

    -- ---- put

    pub put_left : (p : X) (l : List X) (x : X) (r : List X) → R (key p) (key x) ≡ Less → put R key p (l ++ x ∷ r) ≡ put R key p l ++ x ∷ r
    put_left p [] x r e = ap (λ o. by_order o (p ∷ x ∷ r) (p ∷ r) (x ∷ put R key p r)) e
    put_left p (y ∷ l) x r e =
        ap (λ zs. by_order (R (key p) (key y)) (p ∷ y ∷ (l ++ x ∷ r)) (p ∷ (l ++ x ∷ r)) (y ∷ zs)) (put_left p l x r e)
        ∙ by (R (key p) (key y))
      where
        by : (o : Ordering) → by_order o (p ∷ y ∷ (l ++ x ∷ r)) (p ∷ (l ++ x ∷ r)) (y ∷ (put R key p l ++ x ∷ r)) ≡ by_order o (p ∷ y ∷ l) (p ∷ l) (y ∷ put R key p l) ++ x ∷ r
        by Less = refl
        by Equal = refl
        by Greater = refl

    pub put_middle : (p : X) (l : List X) (x : X) (r : List X) → T (is_rising R key (l ++ x ∷ r)) → R (key p) (key x) ≡ Equal → put R key p (l ++ x ∷ r) ≡ l ++ p ∷ r
    put_middle p [] x r h e = ap (λ o. by_order o (p ∷ x ∷ r) (p ∷ r) (x ∷ put R key p r)) e
    put_middle p (y ∷ l) x r h e =
        ap (λ o. by_order o (p ∷ y ∷ (l ++ x ∷ r)) (p ∷ (l ++ x ∷ r)) (y ∷ put R key p (l ++ x ∷ r))) (past_tied (key p) y l x r h e)
        ∙ ap (λ zs. y ∷ zs) (put_middle p l x r (second _ _ h) e)

    pub put_right : (p : X) (l : List X) (x : X) (r : List X) → T (is_rising R key (l ++ x ∷ r)) → R (key p) (key x) ≡ Greater → put R key p (l ++ x ∷ r) ≡ l ++ x ∷ put R key p r
    put_right p [] x r h e = ap (λ o. by_order o (p ∷ x ∷ r) (p ∷ r) (x ∷ put R key p r)) e
    put_right p (y ∷ l) x r h e =
        ap (λ o. by_order o (p ∷ y ∷ (l ++ x ∷ r)) (p ∷ (l ++ x ∷ r)) (y ∷ put R key p (l ++ x ∷ r))) (past (key p) y l x r h e)
        ∙ ap (λ zs. y ∷ zs) (put_right p l x r (second _ _ h) e)

    -- behind all others
    pub put_last : (l : List X) (x : X) (r : List X) → T (is_rising R key (l ++ x ∷ r)) → put R key x l ≡ l ++ x ∷ []
    put_last [] x r h = refl
    put_last (y ∷ l) x r h =
        ap (λ o. by_order o (x ∷ y ∷ l) (x ∷ l) (y ∷ put R key x l)) (turned (key y) (key x) Less (below_middle (key y) l x r (first _ _ h)))
        ∙ ap (λ zs. y ∷ zs) (put_last l x r (second _ _ h))

    -- ---- taken out

    pub without_left : (k : K) (l : List X) (x : X) (r : List X) → T (is_rising R key (l ++ x ∷ r)) → R k (key x) ≡ Less → without R key k (l ++ x ∷ r) ≡ without R key k l ++ x ∷ r
    without_left k [] x r h e = without_none R key o k (x ∷ r) (none_behind k x r h e)
    without_left k (y ∷ l) x r h e =
        ap (λ zs. cond (not (is_eq (R k (key y)))) (y ∷ zs) zs) (without_left k l x r (second _ _ h) e)
        ∙ by (not (is_eq (R k (key y))))
      where
        by : (b : Bool) → cond b (y ∷ (without R key k l ++ x ∷ r)) (without R key k l ++ x ∷ r) ≡ cond b (y ∷ without R key k l) (without R key k l) ++ x ∷ r
        by true = refl
        by false = refl

    pub without_middle : (k : K) (l : List X) (x : X) (r : List X) → T (is_rising R key (l ++ x ∷ r)) → R k (key x) ≡ Equal → without R key k (l ++ x ∷ r) ≡ l ++ r
    without_middle k [] x r h e =
        ap (λ o. cond (not (is_eq o)) (x ∷ without R key k r) (without R key k r)) e
        ∙ without_none R key o k r (none_below R key o k r (below_tied R key o k (key x) r e (first _ _ h)))
    without_middle k (y ∷ l) x r h e =
        ap (λ o. cond (not (is_eq o)) (y ∷ without R key k (l ++ x ∷ r)) (without R key k (l ++ x ∷ r))) (past_tied k y l x r h e)
        ∙ ap (λ zs. y ∷ zs) (without_middle k l x r (second _ _ h) e)

    pub without_right : (k : K) (l : List X) (x : X) (r : List X) → T (is_rising R key (l ++ x ∷ r)) → R k (key x) ≡ Greater → without R key k (l ++ x ∷ r) ≡ l ++ x ∷ without R key k r
    without_right k [] x r h e = ap (λ o. cond (not (is_eq o)) (x ∷ without R key k r) (without R key k r)) e
    without_right k (y ∷ l) x r h e =
        ap (λ o. cond (not (is_eq o)) (y ∷ without R key k (l ++ x ∷ r)) (without R key k (l ++ x ∷ r))) (past k y l x r h e)
        ∙ ap (λ zs. y ∷ zs) (without_right k l x r (second _ _ h) e)
