-- What a log shows whose covered entries are blank.
use Rattle.std.proofs.Common.{◌≡◌, ◌≢◌, ℕ, zero, suc, ◌+◌, ◌-◌, ◌<◌, ◌≤◌, min, true, false, ltb, List, [], ◌++◌, length, get_or, take, drop, replicate, refl, sym, ap, ◌∙◌, arith, length-append, append_assoc}
use Rattle.std.proofs.Math.Seq.{drop-append-add, take-append-add}
use Rattle.std.proofs.lemmas.List.{length-replicate, drop_min, take_rest, append-nil}
use Rattle.machine_model.specs.MachineSpec.{MachineSpec}
use Rattle.machine_model.specs.declared.entry.Entry.{Entry}
use Rattle.raft_model.specs.Logs.{term_at, last_term, has, install}
use Rattle.raft_snapshot.specs.Bases.{noop_prefix}
use Rattle.raft_snapshot.proofs.Logs.{term_at_zero, term_front, term_behind}
use Rattle.raft_snapshot.proofs.Entries.{term_there, term_past}

term_blank : {C : Type 0} (e : Entry C) (n p : ℕ) → p ≢ 0 → p ≤ n → term_at (replicate n e) p ≡ e.term
unfolding term_at
term_blank e zero zero pos le = absurd (pos refl)
term_blank e zero (suc p) pos le = absurd (omega arith)
term_blank e (suc n) zero pos le = absurd (pos refl)
term_blank e (suc n) (suc zero) pos le = refl
term_blank e (suc n) (suc (suc p)) pos le = term_blank e n (suc p) (λ z. absurd (omega (arith, z))) (omega arith)

module _ {S C : Type 0} (m : MachineSpec S C) (index term : ℕ) (tail : List (Entry C)) where
  pub noop_prefix-length : length (noop_prefix m index term) ≡ index
  noop_prefix-length = length-replicate index (record { term = term; command = m.noop })

  pub shown_zero : 0 ≡ term_at (noop_prefix m index term ++ tail) 0
  shown_zero = sym (term_at_zero (noop_prefix m index term ++ tail))

  pub shown_covered : (p : ℕ) → p ≢ 0 → p ≤ index → term ≡ term_at (noop_prefix m index term ++ tail) p
  shown_covered p pos le = sym (term_front (noop_prefix m index term) tail p (omega (arith, noop_prefix-length)) ∙ term_blank (record { term = term; command = m.noop }) index p pos le)

  here : (p : ℕ) → index < p → term_at tail (p - index) ≡ term_at (noop_prefix m index term ++ tail) p
  here p past = let q = p - index - 1 in let e : p - index ≡ suc q = omega arith in ap (term_at tail) e ∙ sym (term_behind (noop_prefix m index term) tail p q (omega (arith, noop_prefix-length)))

  pub shown_there : (p : ℕ) (e : Entry C) → index < p → true ≡ ltb (p - index - 1) (length tail) → e ≡ get_or tail (p - index - 1) e → e.term ≡ term_at (noop_prefix m index term ++ tail) p
  shown_there p e past within read = term_there tail (p - index) e (λ z. absurd (omega (arith, z, past))) within read ∙ here p past

  pub shown_past : (p : ℕ) → index < p → false ≡ ltb (p - index - 1) (length tail) → 0 ≡ term_at (noop_prefix m index term ++ tail) p
  shown_past p past out = term_past tail (p - index) (λ z. absurd (omega (arith, z, past))) out ∙ here p past

  pub shown_drop : (p : ℕ) → index ≤ p → drop (p - index) tail ≡ drop p (noop_prefix m index term ++ tail)
  shown_drop p le = let e : p ≡ length (noop_prefix m index term) + (p - index) = omega (arith, noop_prefix-length) in sym (ap (λ (i : ℕ). drop i (noop_prefix m index term ++ tail)) e ∙ drop-append-add (noop_prefix m index term) tail (p - index))

  pub shown_gone : (gone : ℕ) → drop gone tail ≡ drop (index + gone) (noop_prefix m index term ++ tail)
  shown_gone gone = sym (ap (λ (i : ℕ). drop (i + gone) (noop_prefix m index term ++ tail)) (sym noop_prefix-length) ∙ drop-append-add (noop_prefix m index term) tail gone)

  -- what is covered is blank
  pub shown_whole : noop_prefix m index term ++ tail ≡ noop_prefix m index term ++ drop index (noop_prefix m index term ++ tail)
  shown_whole =
      let none : index - index ≡ 0 = omega arith in
      ap (λ (l : List (Entry C)). noop_prefix m index term ++ l) (sym (ap (λ (i : ℕ). drop i tail) none) ∙ shown_drop index (omega arith))

  pub shown_take : (p : ℕ) → index ≤ p → noop_prefix m index term ++ take (p - index) tail ≡ take p (noop_prefix m index term ++ tail)
  shown_take p le = let e : p ≡ length (noop_prefix m index term) + (p - index) = omega (arith, noop_prefix-length) in sym (ap (λ (i : ℕ). take i (noop_prefix m index term ++ tail)) e ∙ take-append-add (noop_prefix m index term) tail (p - index))

  pub shown_cut : (p : ℕ) → index < p → noop_prefix m index term ++ take (p - index - 1) tail ≡ take (p - 1) (noop_prefix m index term ++ tail)
  shown_cut p low =
      let e : p - index - 1 ≡ p - 1 - index = omega arith in
      ap (λ (i : ℕ). noop_prefix m index term ++ take i tail) e ∙ shown_take (p - 1) (omega (arith, low))

  pub shown_behind : (p start size : ℕ) → index ≤ p → start ≡ min (p - index) (length tail) → size ≡ length tail → take (size - start) (drop start tail) ≡ drop p (noop_prefix m index term ++ tail)
  shown_behind p start size le at all =
      ap (λ (i : ℕ). take (i - start) (drop start tail)) all ∙ take_rest tail start ∙ ap (λ (i : ℕ). drop i tail) at ∙ drop_min (p - index) tail ∙ shown_drop p le

pub shown_replaced : {S C : Type 0} (m : MachineSpec S C) (index term : ℕ) (tail more all : List (Entry C)) (p : ℕ) → index ≤ p → all ≡ take (p - index) tail ++ more → noop_prefix m index term ++ all ≡ take p (noop_prefix m index term ++ tail) ++ more
shown_replaced {C = C} m index term tail more all p le is =
    ap (λ (l : List (Entry C)). noop_prefix m index term ++ l) is ∙ sym (append_assoc (noop_prefix m index term) (take (p - index) tail) more) ∙ ap (λ (l : List (Entry C)). l ++ more) (shown_take m index term tail p le)

pub shown_last : {S C : Type 0} (m : MachineSpec S C) (index term : ℕ) (tail : List (Entry C)) → (index ≡ 0 → term ≡ 0) → term ≡ term_at (noop_prefix m index term ++ tail) index
shown_last m zero term tail none = none refl ∙ shown_zero m 0 term tail
shown_last m (suc index) term tail none = shown_covered m (suc index) term tail (suc index) (λ z. absurd (omega (arith, z))) (omega arith)

module _ {S C : Type 0} (m : MachineSpec S C) (index term : ℕ) (tail : List (Entry C)) where
  pub shown_size : length (noop_prefix m index term ++ tail) ≡ index + length tail
  shown_size = omega (arith, length-append (noop_prefix m index term) tail, noop_prefix-length m index term tail)

-- the last blank entry has the base's term
pub last_is : {S C : Type 0} (m : MachineSpec S C) (p t : ℕ) → (p ≡ 0 → t ≡ 0) → last_term (noop_prefix m p t) ≡ t
unfolding term_at
last_is m zero t none = sym (none refl)
last_is m (suc p) t none = ap (term_at (noop_prefix m (suc p) t)) (noop_prefix-length m (suc p) t []) ∙ term_blank (record { term = t; command = m.noop }) (suc p) (suc p) (λ z. absurd (omega (arith, z))) (omega arith)

module _ {S C : Type 0} (m : MachineSpec S C) (log : List (Entry C)) (p t : ℕ) (none : p ≡ 0 → t ≡ 0) where
  pub install_kept : has log p t ≡ true → noop_prefix m p t ++ drop p log ≡ install log (noop_prefix m p t)
  unfolding install
  install_kept is = rw (last_is m p t none, noop_prefix-length m p t [], is) refl

  pub install_cut : has log p t ≡ false → noop_prefix m p t ++ [] ≡ install log (noop_prefix m p t)
  unfolding install
  install_cut is = rw (last_is m p t none, noop_prefix-length m p t [], is) (append-nil (noop_prefix m p t))
