-- Which of some runs is the worst.
use Rattle.std.proofs.Common.{◌≡◌, ◌==◌, ◌&&◌, ◌||◌, ◌⊎◌, ◌∙◌, ◌+◌, ◌<◌, ℕ, Bool, true, false, List, [], ◌∷◌, ◌++◌, ap, append_assoc, arith, get_or, inl, inr, length, nat_lt, refl, subst, sym, take}
use Rattle.std.proofs.lemmas.List.{take_more}
use Rattle.std.proofs.lemmas.Bool.Decides.{nat_tests}
use Rattle.std.proofs.lemmas.List.Elements.{Contains-push_cases}
use Rattle.sim_sweep.specs.declared.row.Row.{Row}
use Rattle.sim_sweep.specs.Summaries.{IsWorst, class_of, is_worse}

-- `is_worse`, by the classes and the events of the two
abbrev worse_by : (class events other_class other_events : ℕ) → Bool
worse_by class events other_class other_events =
    nat_lt class other_class || (class == other_class && nat_lt other_events events)

not_worse_itself : (class events : ℕ) → worse_by class events class events ≡ false
not_worse_itself class events = grind (arith, nat_tests)

-- what is not worse than a run is not worse than one that is worse than that
still_not_worse : (c e own own_events was was_events : ℕ) → worse_by own own_events was was_events ≡ true → worse_by c e was was_events ≡ false
    → worse_by c e own own_events ≡ false
still_not_worse c e own own_events was was_events worse not_worse = grind (arith, nat_tests)

-- what is worse than a run is worse than each that is not
then_worse : (c e own own_events was was_events : ℕ) → worse_by own own_events was was_events ≡ true → worse_by c e was was_events ≡ false
    → worse_by own own_events c e ≡ true
then_worse c e own own_events was was_events worse not_worse = grind (arith, nat_tests)

-- one run alone
pub worst_alone : (row : Row) → IsWorst (row ∷ []) row
worst_alone row = record {
  before = [];
  behind = [];
  among = refl;
  first = λ other in'. absurd (omega (arith, in'.1));
  most = λ other in'. elim (Contains-push_cases [] row other in') [
    | inl before ↦ absurd (omega (arith, before.1))
    | inr same ↦ subst (λ r. is_worse r row ≡ false) same (not_worse_itself (class_of row) row.end.events)
  ];
}

-- a run that is worse than the worst of these is the worst then
pub worst_goes : (rows : List Row) (worst row : Row) → IsWorst rows worst → is_worse row worst ≡ true → IsWorst (rows ++ row ∷ []) row
worst_goes rows worst row was worse = record {
  before = rows;
  behind = [];
  among = refl;
  first = λ other in'. then_worse (class_of other) other.end.events (class_of row) row.end.events (class_of worst) worst.end.events worse (was.most other in');
  most = λ other in'. elim (Contains-push_cases rows row other in') [
    | inl before ↦
        still_not_worse (class_of other) other.end.events (class_of row) row.end.events (class_of worst) worst.end.events worse (was.most other before)
    | inr same ↦ subst (λ r. is_worse r row ≡ false) same (not_worse_itself (class_of row) row.end.events)
  ];
}

-- the worst of these stays it where one more run is not worse
pub worst_stays : (rows : List Row) (worst row : Row) → IsWorst rows worst → is_worse row worst ≡ false → IsWorst (rows ++ row ∷ []) worst
worst_stays rows worst row was not_worse = record {
  before = was.before;
  behind = was.behind ++ row ∷ [];
  among = ap (λ rs. rs ++ row ∷ []) was.among ∙ append_assoc was.before (worst ∷ was.behind) (row ∷ []);
  first = was.first;
  most = λ other in'. elim (Contains-push_cases rows row other in') [
    | inl before ↦ was.most other before
    | inr same ↦ subst (λ r. is_worse r worst ≡ false) same not_worse
  ];
}

-- one more run of these: the worst is it, where it is worse than the worst so far, and stays else
pub worst_of_more : (first : Row) (others : List Row) (i : ℕ) (row was worst : Row) → i < length others → row ≡ get_or others i row → IsWorst (first ∷ take i others) was
    → ((is_worse row was ≡ true) × (worst ≡ row)) ⊎ ((is_worse row was ≡ false) × (worst ≡ was))
    → IsWorst (first ∷ take (i + 1) others) worst
worst_of_more first others i row was worst within at is one =
    let more : take (i + 1) others ≡ take i others ++ row ∷ [] = take_more others i row within ∙ ap (λ r. take i others ++ r ∷ []) (sym at) in
    let both : (w : Row) → IsWorst ((first ∷ take i others) ++ row ∷ []) w → worst ≡ w → IsWorst (first ∷ take (i + 1) others) worst = λ w then same.
    subst (λ rows. IsWorst (first ∷ rows) worst) (sym more) (subst (IsWorst (first ∷ (take i others ++ row ∷ []))) (sym same) then) in
    elim one [
      | inl goes ↦ both row (worst_goes (first ∷ take i others) was row is goes.0) goes.1
      | inr stays ↦ both was (worst_stays (first ∷ take i others) was row is stays.0) stays.1
    ]
