-- What keeps parts as they have to stand: a put, a cut of one part in two, and lists of some of them.
use Rattle.std.proofs.Common.{◌≡◌, ℕ, zero, suc, ◌<◌, Bool, true, false, not, cond, T, List, [], ◌∷◌, ◌++◌, length, get_or, set, Some, refl, sym, ap, subst, ◌∙◌, arith, append_assoc}
use Rattle.std.specs.Prelude.{insert}
use Rattle.std.specs.List.{slice_get}
use Rattle.std.specs.declared.cmp.Ordering.{Ordering}
use Rattle.std.specs.declared.cmp.Ordering.TheVariants.{Less, Equal, Greater}
use Rattle.std.specs.Ordering.{is_lt, ordering_reverse}
use Rattle.std.specs.Cmp.{IsTotalOrder}
use Rattle.pages.specs.Rows.{is_below, is_rising, put}
use Rattle.pages.specs.Inner.Parts.{rows_of, are_below, are_from, are_before, AreApart, Parted, Leads}
use Rattle.pages.proofs.RowLaws.{both, first, second, less, rising_put}
use Rattle.pages.proofs.Positions.{below_at}
use Rattle.pages.proofs.PartLaws.{not_less, not_below_itself, not_lt_trans, below_up, from_down, from_put, below_put, from_append, from_front, from_back, below_front, below_back, rising_front, rising_back, from_head, front_below, next_leads, put-parts}

module _ {K X : Type 0} (R : K → K → Ordering) (key : X → K) (o : IsTotalOrder R) where
  le_lt : (j k m : K) → T (not (is_lt (R k j))) → R k m ≡ Less → R j m ≡ Less
  le_lt j k m h p = elim (R k j) as (λ r. R k j ≡ r → T (not (is_lt r)) → R j m ≡ Less) [
    | Less ↦ λ e q. absurd q
    | Equal ↦ λ e q. sym (o.congr k j m e) ∙ p
    | Greater ↦ λ e q. o.trans j k m (o.antisymm j k ∙ ap ordering_reverse e) p
  ] refl h

  is_less : (r : Ordering) → r ≡ Less → T (is_lt r)
  is_less r e = subst (λ z. T (is_lt z)) (sym e) tt

  low : (k old : K) (b : Bool) → is_lt (R k old) ≡ b → T (not (is_lt (R k (cond b k old))))
  low k old true q = not_below_itself R key o k
  low k old false q = subst (λ z. T (not z)) (sym q) tt

  down : (k old : K) (b : Bool) → is_lt (R k old) ≡ b → T (not (is_lt (R old (cond b k old))))
  down k old true q = not_less R key o k old (less _ (subst (λ z. T z) (sym q) tt))
  down k old false q = not_below_itself R key o old

  stays : (k old : K) (b : Bool) → T (not b) → cond b k old ≡ old
  stays k old true q = absurd q
  stays k old false q = refl

  headed : (ys : List X) (y : X) → slice_get ys 0 ≡ Some y → (ts : List X) × (ys ≡ y ∷ ts)
  headed [] y e = absurd (apart y e)
    where
      apart : (y : X) → slice_get [] 0 ≡ Some y → ⊥
      apart y e = cc
  headed (z ∷ zs) y e = (zs, ap (λ w. w ∷ zs) (same z y e))
    where
      same : (z y : X) → Some z ≡ Some y → z ≡ y
      same z y e = cc

  module _ {S : Type 0} (start : S → K) (rows : S → List X) where
    before_put : (x : X) (ys : List X) (ss : List S) → T (are_before R key start rows ys ss) → ((i : ℕ) (d : S) → i < length ss → R (key x) (start (get_or ss i d)) ≡ Less) → T (are_before R key start rows (put R key x ys) ss)
    before_put x ys [] h l = tt
    before_put x ys (s ∷ ss) h l = both _ _ (below_put R key o (start s) x ys (first _ _ h) (is_less _ (l 0 s (omega arith)))) (before_put x ys ss (second _ _ h) (λ i d lt. l (suc i) d (omega arith)))

    pub before_set : (ys : List X) (ss : List S) (at : ℕ) (new d : S) → start new ≡ start (get_or ss at d) → T (are_before R key start rows ys ss) → T (are_before R key start rows ys (set ss at new))
    before_set ys [] at new d e h = tt
    before_set ys (s ∷ ss) zero new d e h = both _ _ (subst (λ k. T (are_below R key k ys)) (sym e) (first _ _ h)) (second _ _ h)
    before_set ys (s ∷ ss) (suc at) new d e h = both _ _ (first _ _ h) (before_set ys ss at new d e (second _ _ h))

    above_set : (k : K) (ss : List S) (at : ℕ) (new d : S) → start new ≡ start (get_or ss at d) → T (is_below R start k ss) → T (is_below R start k (set ss at new))
    above_set k [] at new d e h = tt
    above_set k (s ∷ ss) zero new d e h = both _ _ (subst (λ j. T (is_lt (R k j))) (sym e) (first _ _ h)) (second _ _ h)
    above_set k (s ∷ ss) (suc at) new d e h = both _ _ (first _ _ h) (above_set k ss at new d e (second _ _ h))

    above_down : (j k : K) (ss : List S) → T (not (is_lt (R k j))) → T (is_below R start k ss) → T (is_below R start j ss)
    above_down j k [] g h = tt
    above_down j k (s ∷ ss) g h = both _ _ (is_less _ (le_lt j k (start s) g (less _ (first _ _ h)))) (above_down j k ss g (second _ _ h))

    pub firsts_put : (ss : List S) (at : ℕ) (d new : S) → T (is_rising R start ss) → T (not (is_lt (R (start (get_or ss at d)) (start new)))) → (0 < at → start new ≡ start (get_or ss at d)) → T (is_rising R start (set ss at new))
    firsts_put [] at d new r f2 f3 = tt
    firsts_put (s ∷ ss) zero d new r f2 f3 = both _ _ (above_down (start new) (start s) ss f2 (first _ _ r)) (second _ _ r)
    firsts_put (s ∷ ss) (suc at) d new r f2 f3 = both _ _ (above_set (start s) ss at new d (f3 (omega arith)) (first _ _ r)) (firsts_put ss at d new (second _ _ r) f2 (λ lt. f3 (omega arith)))

    apart_put : (x : X) (ss : List S) (at : ℕ) (d new : S) → Leads R key start rows (key x) ss at → T (is_rising R start ss) → AreApart R key start rows ss
        → T (not (is_lt (R (key x) (start new)))) → T (not (is_lt (R (start (get_or ss at d)) (start new)))) → (0 < at → start new ≡ start (get_or ss at d))
        → rows new ≡ put R key x (rows (get_or ss at d)) → AreApart R key start rows (set ss at new)
    apart_put x [] at d new l r h f1 f2 f3 e = absurd (omega (arith, l.0))
    apart_put x (s ∷ ss) zero d new l r h f1 f2 f3 e =
        let down = from_down R key o (start s) (start new) (rows s ++ rows_of rows ss) h.0 f2 in
        let front = from_put R key o (start new) x (rows s) (from_front R key o (start new) (rows s) (rows_of rows ss) down) f1 in (
          subst (λ ys. T (are_from R key (start new) (ys ++ rows_of rows ss))) (sym e) (from_append R key o (start new) (put R key x (rows s)) (rows_of rows ss) front (from_back R key o (start new) (rows s) (rows_of rows ss) down)),
          subst (λ ys. T (are_before R key start rows ys ss)) (sym e) (before_put x (rows s) ss h.1 (λ i c lt. l.1 (suc i) c (omega arith) (omega arith))),
          h.2,
        )
    apart_put x (s ∷ ss) (suc at) d new l r h f1 f2 f3 e =
        let next = next_leads R key o start rows (key x) s ss at l in
        let above : T (not (is_lt (R (key x) (start s)))) = not_lt_trans R key o (key x) (start (get_or ss at d)) (start s) (l.2 (omega arith) d)
        (not_less R key o (start s) (start (get_or ss at d)) (below_at R start o (start s) ss at d (first _ _ r) (omega (arith, l.0)))) in (
          subst (λ ys. T (are_from R key (start s) (rows s ++ ys))) (sym (put-parts R key o start rows x ss at d new next h.2 e))
              (from_append R key o (start s) (rows s) (put R key x (rows_of rows ss)) (from_front R key o (start s) (rows s) (rows_of rows ss) h.0)
              (from_put R key o (start s) x (rows_of rows ss) (from_back R key o (start s) (rows s) (rows_of rows ss) h.0) above)),
          before_set (rows s) ss at new d (f3 (omega arith)) h.1,
          apart_put x ss at d new next (second _ _ r) h.2 f1 f2 (λ lt. f3 (omega arith)) e,
        )

    pub parted_put : (x : X) (ss : List S) (at : ℕ) (d new : S) → Leads R key start rows (key x) ss at → Parted R key start rows ss
        → T (not (is_lt (R (key x) (start new)))) → T (not (is_lt (R (start (get_or ss at d)) (start new)))) → (0 < at → start new ≡ start (get_or ss at d))
        → rows new ≡ put R key x (rows (get_or ss at d)) → Parted R key start rows (set ss at new)
    parted_put x ss at d new l p f1 f2 f3 e = record {
      rising = subst (λ ys. T (is_rising R key ys)) (sym (put-parts R key o start rows x ss at d new l p.apart e)) (rising_put R key o x (rows_of rows ss) p.rising);
      firsts = firsts_put ss at d new p.firsts f2 f3;
      apart = apart_put x ss at d new l p.firsts p.apart f1 f2 f3 e;
    }

    -- a part with the row put in, whose first key goes down to the row's where that is below it
    pub parted_put_at : (x : X) (ss : List S) (at : ℕ) (d new : S) → Leads R key start rows (key x) ss at → Parted R key start rows ss
        → start new ≡ cond (is_lt (R (key x) (start (get_or ss at d)))) (key x) (start (get_or ss at d))
        → rows new ≡ put R key x (rows (get_or ss at d)) → Parted R key start rows (set ss at new)
    parted_put_at x ss at d new l p a e = parted_put x ss at d new l p
        (subst (λ k. T (not (is_lt (R (key x) k)))) (sym a) (low (key x) (start (get_or ss at d)) (is_lt (R (key x) (start (get_or ss at d)))) refl))
        (subst (λ k. T (not (is_lt (R (start (get_or ss at d)) k)))) (sym a) (down (key x) (start (get_or ss at d)) (is_lt (R (key x) (start (get_or ss at d)))) refl))
        (λ lt. a ∙ stays (key x) (start (get_or ss at d)) (is_lt (R (key x) (start (get_or ss at d)))) (l.2 lt d))
        e

    -- one part cut in two
    module _ (l u : S) where
      abbrev cut : List S → ℕ → List S
      cut ss at = set (insert ss (suc at) u) at l

      rows_cut : (ss : List S) (at : ℕ) (d : S) → at < length ss → rows l ++ rows u ≡ rows (get_or ss at d) → rows_of rows (cut ss at) ≡ rows_of rows ss
      rows_cut [] at d lt e = absurd (omega arith)
      rows_cut (s ∷ ss) zero d lt e = sym (append_assoc (rows l) (rows u) (rows_of rows ss)) ∙ ap (λ ys. ys ++ rows_of rows ss) e
      rows_cut (s ∷ ss) (suc at) d lt e = ap (λ ys. rows s ++ ys) (rows_cut ss at d (omega arith) e)

      before_cut : (ys : List X) (ss : List S) (at : ℕ) (d : S) → at < length ss → start l ≡ start (get_or ss at d) → R (start (get_or ss at d)) (start u) ≡ Less → T (are_before R key start rows ys ss) → T (are_before R key start rows ys (cut ss at))
      before_cut ys [] at d lt a p h = absurd (omega arith)
      before_cut ys (s ∷ ss) zero d lt a p h = both _ _ (subst (λ k. T (are_below R key k ys)) (sym a) (first _ _ h))
          (both _ _ (below_up R key o (start s) (start u) ys (first _ _ h) (not_less R key o (start s) (start u) p)) (second _ _ h))
      before_cut ys (s ∷ ss) (suc at) d lt a p h = both _ _ (first _ _ h) (before_cut ys ss at d (omega arith) a p (second _ _ h))

      above_cut : (k : K) (ss : List S) (at : ℕ) (d : S) → at < length ss → start l ≡ start (get_or ss at d) → R (start (get_or ss at d)) (start u) ≡ Less → T (is_below R start k ss) → T (is_below R start k (cut ss at))
      above_cut k [] at d lt a p h = absurd (omega arith)
      above_cut k (s ∷ ss) zero d lt a p h = both _ _ (subst (λ j. T (is_lt (R k j))) (sym a) (first _ _ h))
          (both _ _ (is_less _ (o.trans k (start s) (start u) (less _ (first _ _ h)) p)) (second _ _ h))
      above_cut k (s ∷ ss) (suc at) d lt a p h = both _ _ (first _ _ h) (above_cut k ss at d (omega arith) a p (second _ _ h))

      before_front : (xs ys : List X) (ss : List S) → T (are_before R key start rows (xs ++ ys) ss) → T (are_before R key start rows xs ss)
      before_front xs ys [] h = tt
      before_front xs ys (s ∷ ss) h = both _ _ (below_front R key o (start s) xs ys (first _ _ h)) (before_front xs ys ss (second _ _ h))

      before_back : (xs ys : List X) (ss : List S) → T (are_before R key start rows (xs ++ ys) ss) → T (are_before R key start rows ys ss)
      before_back xs ys [] h = tt
      before_back xs ys (s ∷ ss) h = both _ _ (below_back R key o (start s) xs ys (first _ _ h)) (before_back xs ys ss (second _ _ h))

      above_head : (y : X) (ts : List X) (ss : List S) → T (are_before R key start rows (y ∷ ts) ss) → T (is_below R start (key y) ss)
      above_head y ts [] h = tt
      above_head y ts (s ∷ ss) h = both _ _ (first _ _ (first _ _ h)) (above_head y ts ss (second _ _ h))

      module _ (y : X) (ts : List X) (b : start u ≡ key y) (c : rows u ≡ y ∷ ts) where
        firsts_cut : (ss : List S) (at : ℕ) (d : S) → at < length ss → start l ≡ start (get_or ss at d) → R (start (get_or ss at d)) (start u) ≡ Less → rows l ++ rows u ≡ rows (get_or ss at d)
            → AreApart R key start rows ss → T (is_rising R start ss) → T (is_rising R start (cut ss at))
        firsts_cut [] at d lt a p e h r = absurd (omega arith)
        firsts_cut (s ∷ ss) zero d lt a p e h r =
            let after : T (are_before R key start rows (y ∷ ts) ss) = subst (λ ys. T (are_before R key start rows ys ss)) c (before_back (rows l) (rows u) ss (subst (λ ys. T (are_before R key start rows ys ss)) (sym e) h.1)) in
            both _ _ (subst (λ k. T (is_below R start k (u ∷ ss))) (sym a) (both _ _ (is_less _ p) (first _ _ r)))
            (both _ _ (subst (λ k. T (is_below R start k ss)) (sym b) (above_head y ts ss after)) (second _ _ r))
        firsts_cut (s ∷ ss) (suc at) d lt a p e h r = both _ _ (above_cut (start s) ss at d (omega arith) a p (first _ _ r)) (firsts_cut ss at d (omega arith) a p e h.2 (second _ _ r))

        apart_cut : (ss : List S) (at : ℕ) (d : S) → at < length ss → start l ≡ start (get_or ss at d) → R (start (get_or ss at d)) (start u) ≡ Less → rows l ++ rows u ≡ rows (get_or ss at d)
            → T (is_rising R key (rows_of rows ss)) → AreApart R key start rows ss → AreApart R key start rows (cut ss at)
        apart_cut [] at d lt a p e r h = absurd (omega arith)
        apart_cut (s ∷ ss) zero d lt a p e r h =
            let others = rows_of rows ss in
            let all : T (is_rising R key (rows l ++ (rows u ++ others))) = subst (λ ys. T (is_rising R key ys)) (sym (rows_cut (s ∷ ss) 0 d lt e)) r in
            let both_in : T (is_rising R key (rows l ++ rows u)) = subst (λ ys. T (is_rising R key ys)) (sym e) (rising_front R key o (rows s) others r) in
            let whole : T (are_before R key start rows (rows l ++ rows u) ss) = subst (λ ys. T (are_before R key start rows ys ss)) (sym e) h.1 in (
              subst (λ k. T (are_from R key k (rows l ++ (rows u ++ others)))) (sym a) (subst (λ ys. T (are_from R key (start s) ys)) (sym (rows_cut (s ∷ ss) 0 d lt e)) h.0),
              both _ _ (subst (λ k. T (are_below R key k (rows l))) (sym b) (front_below R key o (rows l) y ts (subst (λ ys. T (is_rising R key (rows l ++ ys))) c both_in))) (before_front (rows l) (rows u) ss whole),
              (
                subst (λ k. T (are_from R key k (rows u ++ others))) (sym b) (subst (λ ys. T (are_from R key (key y) (ys ++ others))) (sym c) (from_head R key o y (ts ++ others) (subst (λ ys. T (is_rising R key (ys ++ others))) c (rising_back R key o (rows l) (rows u ++ others) all)))),
                before_back (rows l) (rows u) ss whole,
                h.2,
              ),
            )
        apart_cut (s ∷ ss) (suc at) d lt a p e r h = (
          subst (λ ys. T (are_from R key (start s) (rows s ++ ys))) (sym (rows_cut ss at d (omega arith) e)) h.0,
          before_cut (rows s) ss at d (omega arith) a p h.1,
          apart_cut ss at d (omega arith) a p e (rising_back R key o (rows s) (rows_of rows ss) r) h.2,
        )

    pub rows_split : (l u : S) (ss : List S) (at : ℕ) (d : S) → at < length ss → rows l ++ rows u ≡ rows (get_or ss at d) → rows_of rows (set (insert ss (suc at) u) at l) ≡ rows_of rows ss
    rows_split l u ss at d lt e = rows_cut l u ss at d lt e

    pub parted_split : (l u : S) (ss : List S) (at : ℕ) (d : S) (y : X) → at < length ss → start l ≡ start (get_or ss at d) → R (start (get_or ss at d)) (start u) ≡ Less → rows l ++ rows u ≡ rows (get_or ss at d)
        → start u ≡ key y → slice_get (rows u) 0 ≡ Some y → Parted R key start rows ss → Parted R key start rows (set (insert ss (suc at) u) at l)
    parted_split l u ss at d y lt a p e b c h =
        let t = headed (rows u) y c in
        record {
          rising = subst (λ ys. T (is_rising R key ys)) (sym (rows_cut l u ss at d lt e)) h.rising;
          firsts = firsts_cut l u y t.0 b t.1 ss at d lt a p e h.apart h.firsts;
          apart = apart_cut l u y t.0 b t.1 ss at d lt a p e h.rising h.apart;
        }
