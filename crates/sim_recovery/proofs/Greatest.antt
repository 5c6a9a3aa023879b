-- Of which rows the most events are told.
use Rattle.std.proofs.Common.{◌≡◌, ◌∙◌, ◌⊎◌, ◌+◌, ◌<◌, ◌≤◌, ℕ, List, [], ◌∷◌, ◌++◌, ap, append_assoc, arith, false, get_or, inl, inr, length, nat_lt, refl, subst, sym, take, true}
use Rattle.std.proofs.lemmas.List.{take_more}
use Rattle.std.proofs.lemmas.Bool.Decides.{nat_tests}
use Rattle.std.proofs.lemmas.List.Elements.{Contains-push_cases}
use Rattle.sim_recovery.specs.declared.table.WayRow.{WayRow}
use Rattle.sim_recovery.specs.Farthest.{IsFarthest}

-- a row of nothing
abbrev pub zero_row : WayRow
zero_row = record { after = 0; counts = record { restarts = 0; timeouts = 0; beats = 0; messages = 0; events = 0 } }

more_events : (a b : ℕ) → nat_lt a b ≡ true → a < b
more_events a b is = grind (arith, nat_tests)

no_more_events : (a b : ℕ) → nat_lt a b ≡ false → b ≤ a
no_more_events a b is = grind (arith, nat_tests)

-- one row alone
pub farthest_alone : (row : WayRow) → IsFarthest (row ∷ []) row
farthest_alone row = record {
  before = [];
  behind = [];
  among = refl;
  first = λ other in'. absurd (omega (arith, in'.1));
  most = λ other in'. elim (Contains-push_cases [] row other in') [
    | inl before ↦ absurd (omega (arith, before.1))
    | inr same ↦ subst (λ (r : WayRow). r.counts.events ≤ row.counts.events) same (omega arith)
  ];
}

-- one that is farther than the farthest of these is it then
farthest_goes : (rows : List WayRow) (was row : WayRow) → IsFarthest rows was → was.counts.events < row.counts.events → IsFarthest (rows ++ row ∷ []) row
farthest_goes rows was row is farther = record {
  before = rows;
  behind = [];
  among = refl;
  first = λ other in'. let most = is.most other in' in omega (arith, most, farther);
  most = λ other in'. elim (Contains-push_cases rows row other in') [
    | inl before ↦ let most = is.most other before in omega (arith, most, farther)
    | inr same ↦ subst (λ (r : WayRow). r.counts.events ≤ row.counts.events) same (omega arith)
  ];
}

-- it stays it where one more is not farther
farthest_stays : (rows : List WayRow) (was row : WayRow) → IsFarthest rows was → row.counts.events ≤ was.counts.events → IsFarthest (rows ++ row ∷ []) was
farthest_stays rows was row is nearer = record {
  before = is.before;
  behind = is.behind ++ row ∷ [];
  among = ap (λ rs. rs ++ row ∷ []) is.among ∙ append_assoc is.before (was ∷ is.behind) (row ∷ []);
  first = is.first;
  most = λ other in'. elim (Contains-push_cases rows row other in') [
    | inl before ↦ is.most other before
    | inr same ↦ subst (λ (r : WayRow). r.counts.events ≤ was.counts.events) same nearer
  ];
}

-- one more row of these
pub farthest_of_more : (first : WayRow) (others : List WayRow) (i : ℕ) (d was now : WayRow) → i < length others → IsFarthest (first ∷ take i others) was
    → let row = get_or others i d in ((nat_lt was.counts.events row.counts.events ≡ true) × (now ≡ row)) ⊎ ((nat_lt was.counts.events row.counts.events ≡ false) × (now ≡ was))
    → IsFarthest (first ∷ take (i + 1) others) now
farthest_of_more first others i d was now within is one =
    let row = get_or others i d in
    let more : take (i + 1) others ≡ take i others ++ row ∷ [] = take_more others i d within in
    let both : (w : WayRow) → IsFarthest ((first ∷ take i others) ++ row ∷ []) w → now ≡ w → IsFarthest (first ∷ take (i + 1) others) now = λ w then same.
    subst (λ rows. IsFarthest (first ∷ rows) now) (sym more) (subst (IsFarthest (first ∷ (take i others ++ row ∷ []))) (sym same) then) in
    elim one [
      | inl goes ↦ both row (farthest_goes (first ∷ take i others) was row is (more_events was.counts.events row.counts.events goes.0)) goes.1
      | inr stays ↦ both was (farthest_stays (first ∷ take i others) was row is (no_more_events was.counts.events row.counts.events stays.0)) stays.1
    ]
