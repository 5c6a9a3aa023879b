-- What the laws give of the state after a list of commands, for every machine.
use Rattle.std.proofs.Common.{None, length-append, ◌≡◌, ℕ, suc, ◌+◌, ◌^◌, ◌<◌, List, [], ◌∷◌, ◌++◌, length, refl, sym, ap, ◌∙◌, arith, add-zero}
use Rattle.machine_model.specs.MachineSpec.{MachineSpec, LawfulMachine, IsStateOf, IsCommandOf}
use Rattle.machine_model.specs.After.{after_from, after, AdmittedFrom, Admitted}

module _ {S C : Type 0} (m : MachineSpec S C) (law : LawfulMachine m) where
  -- a state of the machine, safe, with its count
  pub record GoodAt (n : ℕ) (s : S) : Type 0 where
    pub state : IsStateOf m s
    pub safe : m.safe s
    pub counted : m.count s ≡ n

  -- admitted commands lead from such a state to such a state
  pub after_from_good : (s : S) (cs : List C) (n : ℕ) → GoodAt n s → n + length cs < 2 ^ 40 → AdmittedFrom m s cs → GoodAt (n + length cs) (after_from m s cs)
  after_from_good s [] n good short each = rw add-zero good
  after_from_good s (c ∷ cs) n good short each =
      let below : m.count s + 1 < 2 ^ 40 = omega (arith, good.counted) in
      let next : GoodAt (n + 1) (m.applied s c) = record {
        state = law.applied_fits s c good.state each.0 below;
        safe = law.admitted_is_safe s c good.state each.0 good.safe each.1;
        counted = law.applied_has_count s c ∙ ap (λ k. k + 1) good.counted;
      } in
      let rest = after_from_good (m.applied s c) cs (n + 1) next (omega arith) each.2 in
      let same : (n + 1) + length cs ≡ n + suc (length cs) = omega arith in
      rw (← same) rest

  -- and so from the empty one
  pub after_good : (cs : List C) → Admitted m cs → GoodAt (length cs) (after m cs)
  after_good cs a =
      let first : GoodAt 0 m.empty = record { state = law.empty_fits; safe = law.empty_is_safe; counted = law.empty_has_count } in
      let same : 0 + length cs ≡ length cs = omega arith in
      rw (← same) (after_from_good m.empty cs 0 first (omega (arith, a.short)) a.each)

module _ {S C : Type 0} (m : MachineSpec S C) where
  -- what follows a list goes on from the state after it
  pub after_from-append : (s : S) (xs ys : List C) → after_from m s (xs ++ ys) ≡ after_from m (after_from m s xs) ys
  after_from-append s [] ys = refl
  after_from-append s (x ∷ xs) ys = after_from-append (m.applied s x) xs ys

  -- two lists are admitted one after the other
  pub AdmittedFrom-append : (s : S) (xs ys : List C) → AdmittedFrom m s xs → AdmittedFrom m (after_from m s xs) ys → AdmittedFrom m s (xs ++ ys)
  AdmittedFrom-append s [] ys p q = q
  AdmittedFrom-append s (x ∷ xs) ys p q = (p.0, p.1, AdmittedFrom-append (m.applied s x) xs ys p.2 q)

  -- one more command that the state after a list admits
  pub Admitted-push : (cs : List C) (c : C) → Admitted m cs → IsCommandOf m c → m.admission (after m cs) c ≡ None → length cs + 1 < 2 ^ 40 → Admitted m (cs ++ c ∷ [])
  Admitted-push cs c a is none short = record {
    short = omega (arith, length-append cs (c ∷ []));
    each = AdmittedFrom-append m.empty cs (c ∷ []) a.each (is, none, tt);
  }

module _ {S C : Type 0} (m : MachineSpec S C) (law : LawfulMachine m) where
  -- each command adds one to the count
  pub after_from-count : (s : S) (cs : List C) → m.count (after_from m s cs) ≡ m.count s + length cs
  after_from-count s [] = sym (add-zero (m.count s))
  after_from-count s (c ∷ cs) =
      let one = law.applied_has_count s c in
      let rest = after_from-count (m.applied s c) cs in
      omega (arith, one, rest)

  -- the count is the number of commands
  pub after-count : (cs : List C) → m.count (after m cs) ≡ length cs
  after-count cs = omega (arith, after_from-count m.empty cs, law.empty_has_count)

  -- the front of an admitted list was admitted
  AdmittedFrom-front : (s : S) (xs ys : List C) → AdmittedFrom m s (xs ++ ys) → AdmittedFrom m s xs
  AdmittedFrom-front s [] ys p = tt
  AdmittedFrom-front s (x ∷ xs) ys p = (p.0, p.1, AdmittedFrom-front (m.applied s x) xs ys p.2)

  pub Admitted-front : (xs ys : List C) → Admitted m (xs ++ ys) → Admitted m xs
  Admitted-front xs ys a = record { short = omega (arith, a.short, length-append xs ys); each = AdmittedFrom-front m.empty xs ys a.each }
