-- A log that takes entries over, and the state after the first entries of one that was cut and
-- grew.
use Rattle.std.proofs.Common.{◌≡◌, ℕ, zero, suc, ◌+◌, ◌-◌, ◌<◌, ◌≤◌, ◌||◌, nat_le, Bool, true, false, inl, inr, List, [], ◌∷◌, ◌++◌, length, take, drop, get_or, refl, sym, ap, ◌∙◌, arith, take-take, length-take-le, Result, Ok, Err, OnOk}
use Rattle.std.proofs.Math.Seq.{take-append-add}
use Rattle.std.proofs.lemmas.List.{take-append-le}
use Rattle.std.proofs.lemmas.Bool.Decides.{leb_tells}
use Rattle.machine_model.specs.MachineSpec.{MachineSpec}
use Rattle.machine_model.specs.After.{after_from}
use Rattle.machine_model.specs.declared.entry.Entry.{Entry}
use Rattle.raft_model.specs.Logs.{commands, has, merge}
use Rattle.raft_snapshot.specs.Bases.{Base, state_from}
use Rattle.raft_snapshot.proofs.Applies.{state_from-append}

-- what stays is in the log
pub stays_within : {C : Type 0} (c p : ℕ) (log : List (Entry C)) (term : ℕ) → c ≤ length log → (nat_le p c || has log p term) ≡ true → p ≤ length log
stays_within c p log term committed is =
    elim (leb_tells p c) [
      | inl low ↦ omega (arith, low.1)
      | inr high ↦ let there : has log p term ≡ true = rw high.0 at is in
          elim (leb_tells p (length log)) [
            | inl within ↦ within.1
            | inr past ↦ absurd (cc (rw past.0 at there))
          ]
    ]

-- what does not stay is past commit
pub stays_not : (c p : ℕ) (b : Bool) → (nat_le p c || b) ≡ false → c < p
stays_not c p b is = elim (leb_tells p c) [ inl low ↦ absurd (cc (rw low.0 at is)) | inr high ↦ high.1 ]

pub merge_none : {C : Type 0} (c p : ℕ) (log : List (Entry C)) → merge c p log [] ≡ log
unfolding merge
merge_none c p log = refl

-- an entry that stays is passed over
merge_pass : {C : Type 0} (c p : ℕ) (log : List (Entry C)) (e : Entry C) (es : List (Entry C)) → (nat_le (suc p) c || has log (suc p) e.term) ≡ true → merge c p log (e ∷ es) ≡ merge c (suc p) log es
unfolding merge
merge_pass c p log e es is = rw is refl

-- at another the log is cut
merge_cut : {C : Type 0} (c p : ℕ) (log : List (Entry C)) (e : Entry C) (es : List (Entry C)) → (nat_le (suc p) c || has log (suc p) e.term) ≡ false → merge c p log (e ∷ es) ≡ take p log ++ e ∷ es
unfolding merge
merge_cut c p log e es is = rw is refl

drop_at : {C : Type 0} (es : List C) (i : ℕ) (e : C) → i < length es → e ≡ get_or es i e → drop i es ≡ e ∷ drop (suc i) es
drop_at [] i e within is = absurd (omega arith)
drop_at (x ∷ es) zero e within is = rw is refl
drop_at (x ∷ es) (suc i) e within is = drop_at es i e (omega arith) is

module _ {C : Type 0} (c p : ℕ) (log es : List (Entry C)) (i : ℕ) (e : Entry C) (within : i < length es) (read : e ≡ get_or es i e) where
  pub merge_next : (nat_le (p + i + 1) c || has log (p + i + 1) e.term) ≡ true → merge c (p + i) log (drop i es) ≡ merge c (p + (i + 1)) log (drop (i + 1) es)
  merge_next is =
      let q : p + i + 1 ≡ suc (p + i) = omega arith in
      let r : p + (i + 1) ≡ suc (p + i) = omega arith in
      let t : i + 1 ≡ suc i = omega arith in
      let now : (nat_le (suc (p + i)) c || has log (suc (p + i)) e.term) ≡ true = rw q at is in
      rw (r, t, drop_at es i e within read) (merge_pass c (p + i) log e (drop (suc i) es) now)

  pub merge_here : (nat_le (p + i + 1) c || has log (p + i + 1) e.term) ≡ false → merge c (p + i) log (drop i es) ≡ take (p + i) log ++ drop i es
  merge_here is =
      let q : p + i + 1 ≡ suc (p + i) = omega arith in
      let now : (nat_le (suc (p + i)) c || has log (suc (p + i)) e.term) ≡ false = rw q at is in
      rw (drop_at es i e within read) (merge_cut c (p + i) log e (drop (suc i) es) now)

module _ {S C : Type 0} (m : MachineSpec S C) (base : Base S) where
  -- up to the cut nothing changed
  pub after_kept : (es tail : List (Entry C)) (keep n : ℕ) (s : S) → n ≤ keep → keep ≤ length es → s ≡ state_from m base (take n es) → s ≡ state_from m base (take n (take keep es ++ tail))
  after_kept es tail keep n s le within old =
      let front : take n (take keep es ++ tail) ≡ take n es = take-append-le n (take keep es) tail (omega (arith, length-take-le keep es within)) ∙ take-take n keep es le in
      old ∙ sym (ap (state_from m base) front)

  -- past the cut the tail follows
  pub after_tail : (es tail : List (Entry C)) (keep n : ℕ) (s t : S) → base.index ≤ keep → keep ≤ n → keep ≤ length es → s ≡ state_from m base (take keep es) → t ≡ after_from m s (commands (take (n - keep) tail)) → t ≡ state_from m base (take n (take keep es ++ tail))
  after_tail es tail keep n s t covered le within old step =
      let k = n - keep in
      let size : length (take keep es) ≡ keep = length-take-le keep es within in
      let whole : take n (take keep es ++ tail) ≡ take keep es ++ take k tail = ap (λ (i : ℕ). take i (take keep es ++ tail)) (omega (arith, size)) ∙ take-append-add (take keep es) tail k in
      step ∙ ap (λ x. after_from m x (commands (take k tail))) old
      ∙ sym (ap (state_from m base) whole ∙ state_from-append m base (take keep es) (take k tail) (omega (arith, covered, size)))

pub on_ok_is : {T E P : Type 0} (r : Result T E) → P → OnOk r P
on_ok_is (Ok x) h = h
on_ok_is (Err e) h = tt
