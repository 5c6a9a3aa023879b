-- Logs whose commands were each admitted after those before them.
use Rattle.std.proofs.Common.{◌≡◌, ℕ, zero, suc, ◌<◌, ◌≤◌, nat_lt, None, List, [], ◌∷◌, ◌++◌, length, take, refl, sym, ap, subst, arith, inl, inr}
use Rattle.std.proofs.lemmas.Bool.{ltb-true}
use Rattle.machine_model.specs.MachineSpec.{MachineSpec, LawfulMachine, IsCommandOf}
use Rattle.machine_model.specs.After.{after, AdmittedFrom, Admitted}
use Rattle.machine_model.proofs.Afters.{after_good, Admitted-push}
use Rattle.machine_model.specs.declared.entry.Entry.{Entry}
use Rattle.raft_model.specs.Logs.{MAX, commands, state_after}
use Rattle.raft_model.specs.Rafts.{Raft}
use Rattle.raft_model.specs.Steps.{admission_refusal}
use Rattle.raft_model.proofs.Cases.{bool_cases}

-- the entries were admitted one after the other
pub Sound : {S C : Type 0} → MachineSpec S C → List (Entry C) → Type 0
Sound m log = Admitted m (commands log)

-- a command for each entry
pub commands_length : {C : Type 0} (log : List (Entry C)) → length (commands log) ≡ length log
unfolding commands
commands_length [] = refl
commands_length (e ∷ log) = ap suc (commands_length log)

-- of two parts, one after the other
pub commands_append : {C : Type 0} (xs ys : List (Entry C)) → commands (xs ++ ys) ≡ commands xs ++ commands ys
unfolding commands
commands_append [] ys = refl
commands_append (x ∷ xs) ys = ap (λ l. x.command ∷ l) (commands_append xs ys)

-- one more
commands_push : {C : Type 0} (log : List (Entry C)) (e : Entry C) → commands (log ++ e ∷ []) ≡ commands log ++ e.command ∷ []
unfolding commands
commands_push log e = commands_append log (e ∷ [])

module _ {S C : Type 0} (m : MachineSpec S C) where
  -- the empty log
  pub none_sound : Sound m []
  unfolding Sound commands
  none_sound = record { short = omega arith; each = tt }

  -- a first part was admitted
  first_each : (s : S) (k : ℕ) (log : List (Entry C)) → AdmittedFrom m s (commands log) → AdmittedFrom m s (commands (take k log))
  unfolding commands
  first_each s zero log h = tt
  first_each s (suc k) [] h = tt
  first_each s (suc k) (e ∷ log) h = (h.0, h.1, first_each (m.applied s e.command) k log h.2)

  -- and is no longer
  first_length : (k : ℕ) (log : List (Entry C)) → length (commands (take k log)) ≤ length (commands log)
  unfolding commands
  first_length zero log = omega arith
  first_length (suc k) [] = omega arith
  first_length (suc k) (e ∷ log) = omega (arith, first_length k log)

  -- each first part
  pub first_sound : (k : ℕ) (log : List (Entry C)) → Sound m log → Sound m (take k log)
  unfolding Sound
  first_sound k log h = record { short = omega (arith, first_length k log, h.short); each = first_each m.empty k log h.each }

  -- one more entry, if it is admitted
  push_sound : (log : List (Entry C)) (e : Entry C) → IsCommandOf m e.command → m.admission (after m (commands log)) e.command ≡ None → length log < MAX → Sound m log → Sound m (log ++ e ∷ [])
  unfolding Sound
  push_sound log e is none index_left h = subst (λ cs. Admitted m cs) (sym (commands_push log e))
      (Admitted-push m (commands log) e.command h is none (omega (arith, index_left, commands_length log)))

  -- a proposal's tests
  admitted_told : (s : Raft C) (command : C) → admission_refusal m s command ≡ None → (length s.log < MAX) × (m.admission (after m (commands s.log)) command ≡ None)
  admitted_told s command h = elim (bool_cases (nat_lt (length s.log) MAX)) [
    | inl e ↦ (ltb-true (length s.log) MAX e, rw e at h)
    | inr e ↦ absurd (let q = rw e at h in cc)
  ]

  -- a proposal
  pub proposal_sound : (s : Raft C) (command : C) → IsCommandOf m command → admission_refusal m s command ≡ None → Sound m s.log → Sound m (s.log ++ record { term = s.term; command = command } ∷ [])
  proposal_sound s command is none h = let a = admitted_told s command none in push_sound s.log (record { term = s.term; command = command }) is a.1 a.0 h

  -- a new leader's no-op
  pub noop_sound : LawfulMachine m → (log : List (Entry C)) (t : ℕ) → length log < MAX → Sound m log → Sound m (log ++ record { term = t; command = m.noop } ∷ [])
  unfolding Sound
  noop_sound law log t index_left h =
      let good = after_good m law (commands log) h in
      push_sound log (record { term = t; command = m.noop }) law.noop_fits (law.noop_is_admitted (after m (commands log)) good.state) index_left h

  -- the state after it is safe
  pub sound_safe : LawfulMachine m → (log : List (Entry C)) → Sound m log → m.safe (state_after m log)
  unfolding Sound
  sound_safe law log h = let good = after_good m law (commands log) h in good.safe

  -- its length
  pub sound_short : (log : List (Entry C)) → Sound m log → length log ≤ MAX
  unfolding Sound
  sound_short log h = omega (arith, h.short, commands_length log)

  -- in the words of the machine
  pub sound_admitted : (log : List (Entry C)) → Sound m log → Admitted m (commands log)
  unfolding Sound
  sound_admitted log h = h
