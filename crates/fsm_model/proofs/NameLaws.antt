-- Names held once, told by how many claims are of each name: so it does not depend on the order of
-- the claims.
use Rattle.std.proofs.Common.{◌≡◌, ℕ, ◌+◌, ◌≤◌, Bool, true, false, cond, not, ◌&&◌, ◌||◌, T, List, [], ◌∷◌, refl, sym, ap, subst, ◌∙◌, arith}
use Rattle.std.specs.Prelude.{sum_by, nat_eq, bytes_eq}
use Rattle.std.specs.List.{list_any}
use Rattle.std.specs.Ordering.{nat_cmp, is_eq}
use Rattle.std.specs.Cmp.{tied_itself}
use Rattle.std.specs.Cmp.Lexicographic.{nat_list_cmp_total, slice_cmp}
use Rattle.std.specs.declared.cmp.Ordering.TheVariants.{Equal}
use Rattle.std.proofs.lemmas.List.Sums.{sum_by-cons}
use Rattle.std.proofs.lemmas.Map.Text.{is_eq-slice_cmp}
use Rattle.fsm_tables.proofs.RowLaws.{both, first, second, equal}
use Rattle.fsm_tables.specs.Claims.{Claim}
use Rattle.fsm_model.specs.Safe.{same_name, are_distinct}

-- how many claims are of the name of q
abbrev pub named : Claim → List Claim → ℕ
named q cs = sum_by (λ c. cond (same_name q c) 1 0) cs

-- ---- being of one name

names_join : (a b c : List ℕ) → T (bytes_eq a b) → T (bytes_eq a c) → T (bytes_eq b c)
names_join a b c p q =
    let tie : slice_cmp nat_cmp a b ≡ Equal = equal _ (subst T (sym (is_eq-slice_cmp a b)) p) in
    subst T (ap is_eq (nat_list_cmp_total.congr a b c tie) ∙ is_eq-slice_cmp b c) (subst T (sym (is_eq-slice_cmp a c)) q)

numbers_join : (a b c : ℕ) → T (nat_eq a b) → T (nat_eq a c) → T (nat_eq b c)
numbers_join a b c p q = grind arith

pub join : (q c d : Claim) → T (same_name q c) → T (same_name q d) → T (same_name c d)
join q c d g h =
    let front = first (bytes_eq q.job c.job && bytes_eq q.group c.group) (nat_eq q.index c.index) g in
    let other = first (bytes_eq q.job d.job && bytes_eq q.group d.group) (nat_eq q.index d.index) h in
    both _ _ (both _ _
    (names_join q.job c.job d.job (first (bytes_eq q.job c.job) (bytes_eq q.group c.group) front) (first (bytes_eq q.job d.job) (bytes_eq q.group d.group) other))
    (names_join q.group c.group d.group (second (bytes_eq q.job c.job) (bytes_eq q.group c.group) front) (second (bytes_eq q.job d.job) (bytes_eq q.group d.group) other)))
    (numbers_join q.index c.index d.index (second (bytes_eq q.job c.job && bytes_eq q.group c.group) (nat_eq q.index c.index) g) (second (bytes_eq q.job d.job && bytes_eq q.group d.group) (nat_eq q.index d.index) h))

names_itself : (a : List ℕ) → T (bytes_eq a a)
names_itself a = let e : is_eq (slice_cmp nat_cmp a a) ≡ true = ap is_eq (tied_itself nat_list_cmp_total a) in subst T (sym (sym (is_eq-slice_cmp a a) ∙ e)) tt

number_itself : (n : ℕ) → T (nat_eq n n)
number_itself n = grind arith

pub itself : (c : Claim) → T (same_name c c)
itself c = both _ _ (both _ _ (names_itself c.job) (names_itself c.group)) (number_itself c.index)

pub no_other : (a b : Bool) → T a → T (not (a || b)) → ⊥
no_other true b p h = h
no_other false b p h = p

pub rest_other : (a b : Bool) → T (not (a || b)) → T (not b)
rest_other true b h = absurd h
rest_other false b h = h

by_truth : (b : Bool) → T b → ◌≡◌ {A = ℕ} (cond b 1 0) 1
by_truth true p = refl
by_truth false p = absurd p

-- ---- counts

none_named : (q : Claim) (cs : List Claim) → T (not (list_any (same_name q) cs)) → named q cs ≡ 0
none_named q [] h = refl
none_named q (c ∷ cs) h =
    sum_by-cons (λ c. cond (same_name q c) 1 0) c cs
    ∙ elim (same_name q c) as (λ b. T (not (b || list_any (same_name q) cs)) → cond b 1 0 + named q cs ≡ 0) [
      | true ↦ λ h. absurd h
      | false ↦ λ h. let rest : named q cs ≡ 0 = none_named q cs h in omega arith
    ] h

-- a name that one claim has and no other like it has none of q's name, where q is of it
apart : (q c : Claim) (cs : List Claim) → T (same_name q c) → T (not (list_any (same_name c) cs)) → T (not (list_any (same_name q) cs))
apart q c [] g h = tt
apart q c (d ∷ cs) g h =
    elim (same_name q d) as (λ b. same_name q d ≡ b → T (not (b || list_any (same_name q) cs))) [
      | true ↦ λ e. absurd (no_other (same_name c d) (list_any (same_name c) cs) (join q c d g (subst T (sym e) tt)) h)
      | false ↦ λ e. apart q c cs g (rest_other (same_name c d) (list_any (same_name c) cs) h)
    ] refl

pub count_distinct : (cs : List Claim) → T (are_distinct cs) → (q : Claim) → named q cs ≤ 1
count_distinct [] h q = omega arith
count_distinct (c ∷ cs) h q =
    let all = sum_by-cons (λ c. cond (same_name q c) 1 0) c cs in
    elim (same_name q c) as (λ b. same_name q c ≡ b → named q (c ∷ cs) ≤ 1) [
      | true ↦ λ e.
          let none : named q cs ≡ 0 = none_named q cs (apart q c cs (subst T (sym e) tt) (first _ _ h)) in
          let here : ◌≡◌ {A = ℕ} (cond (same_name q c) 1 0) 1 = ap (λ b. cond b 1 0) e in
          omega (arith, all, none, here)
      | false ↦ λ e.
          let rest : named q cs ≤ 1 = count_distinct cs (second _ _ h) q in
          let here : ◌≡◌ {A = ℕ} (cond (same_name q c) 1 0) 0 = ap (λ b. cond b 1 0) e in
          omega (arith, all, rest, here)
    ] refl

some_named : (q : Claim) (cs : List Claim) → T (list_any (same_name q) cs) → 1 ≤ named q cs
some_named q [] h = absurd h
some_named q (c ∷ cs) h =
    let all = sum_by-cons (λ c. cond (same_name q c) 1 0) c cs in
    elim (same_name q c) as (λ b. same_name q c ≡ b → T (b || list_any (same_name q) cs) → 1 ≤ named q (c ∷ cs)) [
      | true ↦ λ e h. let here : ◌≡◌ {A = ℕ} (cond (same_name q c) 1 0) 1 = ap (λ b. cond b 1 0) e in omega (arith, all, here)
      | false ↦ λ e h. let rest : 1 ≤ named q cs = some_named q cs h in omega (arith, all, rest)
    ] refl h

pub distinct_count : (cs : List Claim) → ((q : Claim) → named q cs ≤ 1) → T (are_distinct cs)
distinct_count [] f = tt
distinct_count (c ∷ cs) f = both _ _
    (elim (list_any (same_name c) cs) as (λ b. list_any (same_name c) cs ≡ b → T (not b)) [
      | true ↦ λ e.
          let all = sum_by-cons (λ d. cond (same_name c d) 1 0) c cs in
          let here : ◌≡◌ {A = ℕ} (cond (same_name c c) 1 0) 1 = by_truth (same_name c c) (itself c) in
          let more : 1 ≤ named c cs = some_named c cs (subst T (sym e) tt) in
          let most : named c (c ∷ cs) ≤ 1 = f c in
          absurd (omega (arith, all, here, more, most))
      | false ↦ λ e. tt
    ] refl)
    (distinct_count cs (λ q. let all = sum_by-cons (λ d. cond (same_name q d) 1 0) c cs in let most : named q (c ∷ cs) ≤ 1 = f q in omega (arith, all, most)))

-- claims with the same sums are as distinct
pub distinct_same : (cs ds : List Claim) → ((w : Claim → ℕ) → sum_by w cs ≡ sum_by w ds) → T (are_distinct cs) → T (are_distinct ds)
distinct_same cs ds same h = distinct_count ds (λ q. subst (λ (n : ℕ). n ≤ 1) (same (λ c. cond (same_name q c) 1 0)) (count_distinct cs h q))
