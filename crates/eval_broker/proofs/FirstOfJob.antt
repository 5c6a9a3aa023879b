-- The first rank of a job, where the ranks are in order.
use Rattle.std.proofs.Common.{◌≡◌, ℕ, Bool, true, false, cond, T, List, [], ◌∷◌, ◌++◌, Option, Some, None, refl, sym, ap, subst, ◌∙◌}
use Rattle.std.specs.Prelude.{bytes_eq, option_map}
use Rattle.std.proofs.lemmas.Map.Text.{is_eq-slice_cmp}
use Rattle.std.specs.declared.cmp.Ordering.{Ordering}
use Rattle.std.specs.declared.cmp.Ordering.TheVariants.{Less, Equal, Greater}
use Rattle.std.specs.Ordering.{bool_cmp, is_eq, is_lt, ordering_then, ordering_reverse}
use Rattle.std.specs.Cmp.{tied_back, alike_right}
use Rattle.std.specs.Cmp.Lexicographic.{nat_list_cmp_total}
use Rattle.rows.specs.Keys.{name_cmp}
use Rattle.rows.specs.Rising.{is_below, is_rising}
use Rattle.fsm_tables.specs.Rows.{row_of}
use Rattle.fsm_tables.proofs.RowLaws.{first, second, less}
use Rattle.fsm_tables.specs.Urgencies.{urgency_cmp}
use Rattle.eval_broker.specs.declared.ranks.Rank.{Rank}
use Rattle.eval_broker.specs.Inner.Lists.{rank_cmp, rank_job}
use Rattle.eval_broker.proofs.Orders.{is_equal, true_false}
use Rattle.eval_broker.proofs.Splits.{below_middle, rising_back}

-- whether a rank is of an earlier job
abbrev pub is_early : List ℕ → Rank → Bool
is_early job p = is_lt (name_cmp p.job job)

not_later : (a b job : List ℕ) (r : Ordering) → name_cmp a b ≡ r → (s : Ordering) → ordering_then r s ≡ Less → is_lt (name_cmp b job) ≡ true → is_lt (name_cmp a job) ≡ true
not_later a b job Less e s h early = ap is_lt (nat_list_cmp_total.trans a b job e (less _ (subst T (sym early) tt)))
not_later a b job Equal e s h early = ap is_lt (nat_list_cmp_total.congr a b job e) ∙ early
not_later a b job Greater e s h early = absurd (cc)

unequal : (a b : List ℕ) (r : Ordering) → name_cmp a b ≡ r → is_lt r ≡ true → is_eq (name_cmp b a) ≡ false
unequal a b Less e t = ap is_eq (nat_list_cmp_total.antisymm b a ∙ ap ordering_reverse e)
unequal a b Equal e t = absurd (cc)
unequal a b Greater e t = absurd (cc)

-- none of a later job's ranks is of the job
none_later : (job : List ℕ) (p : Rank) (ps : List Rank) → is_early job p ≡ false → is_eq (name_cmp job p.job) ≡ false → T (is_below rank_cmp (λ x. x) p ps) → row_of name_cmp rank_job job ps ≡ None
none_later job p [] late off h = refl
none_later job p (y ∷ ys) late off h =
    ap (λ b. cond b (Some y) (row_of name_cmp rank_job job ys)) (apart (name_cmp p.job y.job) refl (is_eq (name_cmp job y.job)) refl) ∙ none_later job p ys late off (second _ _ h)
  where
    apart : (r : Ordering) → name_cmp p.job y.job ≡ r → (b : Bool) → is_eq (name_cmp job y.job) ≡ b → b ≡ false
    apart r e false f = refl
    apart Less e true f = true_false _ (ap is_lt (sym (alike_right nat_list_cmp_total y.job job p.job (tied_back nat_list_cmp_total job y.job (is_equal _ f))) ∙ e)) late
    apart Equal e true f = true_false _ (ap is_eq (alike_right nat_list_cmp_total p.job y.job job e) ∙ f) off
    apart Greater e true f = bad (rank_cmp p y) refl (first _ _ h) where
      bad : (r : Ordering) → rank_cmp p y ≡ r → T (is_lt r) → true ≡ false
      bad r q t = absurd (subst (λ (o : Ordering). T (is_lt o)) (sym q ∙ ap (λ o. ordering_then o (ordering_then (bool_cmp p.is_free y.is_free) (ordering_then (bool_cmp p.is_spent y.is_spent) (urgency_cmp p.urgency y.urgency)))) e) t)

-- ---- on both sides of one of the ranks

pub unmapped : {A B : Type 0} (f : A → B) (m : Option A) → option_map f m ≡ None → m ≡ None
unmapped f None e = refl
unmapped f (Some x) e = absurd (cc)

module _ (job : List ℕ) where
  -- none on its left is of a later job than its own
  pub job_right : (l : List Rank) (x : Rank) (r : List Rank) → T (is_rising rank_cmp (λ p. p) (l ++ x ∷ r)) → is_early job x ≡ true → row_of name_cmp rank_job job (l ++ x ∷ r) ≡ row_of name_cmp rank_job job r
  job_right [] x r h early = ap (λ b. cond b (Some x) (row_of name_cmp rank_job job r)) (unequal x.job job (name_cmp x.job job) refl early)
  job_right (y ∷ l) x r h early =
      let under = below_middle rank_cmp (λ p. p) y l x r (first _ _ h) in
      let before : is_early job y ≡ true = not_later y.job x.job job (name_cmp y.job x.job) refl _ under early in
      ap (λ b. cond b (Some y) (row_of name_cmp rank_job job (l ++ x ∷ r))) (unequal y.job job (name_cmp y.job job) refl before)
      ∙ job_right l x r (second _ _ h) early

  in_front : (l zs : List Rank) (p : Rank) → row_of name_cmp rank_job job l ≡ Some p → row_of name_cmp rank_job job (l ++ zs) ≡ Some p
  in_front [] zs p e = absurd (cc)
  in_front (y ∷ l) zs p e = by (is_eq (name_cmp job y.job)) e (in_front l zs p) where
    by : (b : Bool) → cond b (Some y) (row_of name_cmp rank_job job l) ≡ Some p → (row_of name_cmp rank_job job l ≡ Some p → row_of name_cmp rank_job job (l ++ zs) ≡ Some p) → cond b (Some y) (row_of name_cmp rank_job job (l ++ zs)) ≡ Some p
    by true e rest = e
    by false e rest = rest e

  pub job_left : (l zs : List Rank) (m : Option Rank) → row_of name_cmp rank_job job l ≡ m → (m ≡ None → ⊥) → row_of name_cmp rank_job job (l ++ zs) ≡ m
  job_left l zs None e some = absurd (some refl)
  job_left l zs (Some p) e some = in_front l zs p e

  behind : (l zs : List Rank) → row_of name_cmp rank_job job l ≡ None → row_of name_cmp rank_job job (l ++ zs) ≡ row_of name_cmp rank_job job zs
  behind [] zs e = refl
  behind (y ∷ l) zs e = by (is_eq (name_cmp job y.job)) e (behind l zs) where
    by : (b : Bool) → cond b (Some y) (row_of name_cmp rank_job job l) ≡ None → (row_of name_cmp rank_job job l ≡ None → row_of name_cmp rank_job job (l ++ zs) ≡ row_of name_cmp rank_job job zs) → cond b (Some y) (row_of name_cmp rank_job job (l ++ zs)) ≡ row_of name_cmp rank_job job zs
    by true e rest = absurd (cc)
    by false e rest = rest e

  same_job : (p : Rank) → bytes_eq p.job job ≡ is_eq (name_cmp job p.job)
  same_job p = sym (is_eq-slice_cmp p.job job) ∙ by (name_cmp job p.job) (nat_list_cmp_total.antisymm p.job job) where
    by : (r : Ordering) → name_cmp p.job job ≡ ordering_reverse r → is_eq (name_cmp p.job job) ≡ is_eq r
    by Less e = ap is_eq e
    by Equal e = ap is_eq e
    by Greater e = ap is_eq e

  -- it is the first itself, or there is none
  pub job_here : (l : List Rank) (x : Rank) (r : List Rank) → T (is_rising rank_cmp (λ p. p) (l ++ x ∷ r)) → is_early job x ≡ false → row_of name_cmp rank_job job l ≡ None
      → row_of name_cmp rank_job job (l ++ x ∷ r) ≡ cond (bytes_eq x.job job) (Some x) None
  job_here l x r h late none =
      behind l (x ∷ r) none ∙ by (is_eq (name_cmp job x.job)) refl ∙ ap (λ b. cond b (Some x) None) (sym (same_job x))
    where
      by : (b : Bool) → is_eq (name_cmp job x.job) ≡ b → cond b (Some x) (row_of name_cmp rank_job job r) ≡ cond b (Some x) None
      by true e = refl
      by false e = none_later job x r late e (first _ _ (rising_back rank_cmp (λ p. p) l (x ∷ r) h))
