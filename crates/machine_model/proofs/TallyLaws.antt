-- The laws of the tally.
use Rattle.std.proofs.Common.{◌≡◌, ℕ, ◌+◌, ◌^◌, ◌<◌, ◌≤◌, Bool, true, false, cond, ltb, Some, None, refl, subst, arith, inl, inr}
use Rattle.std.proofs.lemmas.Bool.{cases_lt, le-ltb, lt-ltb}
use Rattle.rows.specs.declared.refusal.Refusal.{Refusal}
use Rattle.rows.specs.declared.refusal.Refusal.TheVariants.{OutOfRange}
use Rattle.fields_model.specs.Format.{Lawful}
use Rattle.fields_model.proofs.FormatLaws.{number_lawful, flag_lawful, nothing_lawful, then_lawful, made_lawful, no_choice, variant_choice, choice_lawful}
use Rattle.fields_model.proofs.FieldLaws.{index_lawful}
use Rattle.machine_model.specs.MachineSpec.{LawfulMachine, IsMachineRefusal}
use Rattle.machine_model.specs.TallyState.{TallyState}
use Rattle.machine_model.specs.Tally.{amount, tally, tag_of, noop_of, add_of, tally_command, raised, tally_applied, tally_admission, tally_spec}
use Rattle.machine_model.specs.declared.tally.TallyCommand.{TallyCommand}
use Rattle.machine_model.specs.declared.tally.TallyCommand.TheVariants.{Noop, Add}

pub amount_lawful : Lawful amount
amount_lawful = number_lawful 2 0 1001 (omega arith) (omega arith)

pub tally_is_lawful : Lawful tally
tally_is_lawful = made_lawful _ _ _ (λ _. refl) (λ _ _. refl) (then_lawful _ _ index_lawful amount_lawful)

-- each variant is made of what it holds
noop_there : (v : TallyCommand) (a : Unit {0}) → noop_of v ≡ Some a → Noop ≡ v
noop_there Noop a e = refl
noop_there (Add _) a e = absurd cc

add_there : (v : TallyCommand) (a : ℕ) → add_of v ≡ Some a → Add a ≡ v
add_there (Add _) a e = cc
add_there Noop a e = absurd cc

pub tally_command_lawful : Lawful tally_command
tally_command_lawful = choice_lawful tag_of _ _ flag_lawful
    (variant_choice tag_of 0 _ _ _ _ (record { back = λ _. refl; there = noop_there }) (λ _. refl) nothing_lawful
    (variant_choice tag_of 1 _ _ _ _ (record { back = λ _. refl; there = add_there }) (λ _. refl) amount_lawful
    (no_choice tag_of)))

-- a sum within bounds stays within them
raised_fits : (sum k : ℕ) → sum < 1001 → raised sum k < 1001
raised_fits sum k low = elim (cases_lt (sum + k) 1001) [
  | inl lt ↦ rw (lt-ltb _ _ lt) lt
  | inr le ↦ rw (le-ltb _ _ le) low
]

-- the parts of the law, by cases on the command
applied_fits : (s : TallyState) (c : TallyCommand) → tally.Fits s → tally_command.Fits c → s.count + 1 < 2 ^ 40 → tally.Fits (tally_applied s c)
applied_fits s Noop fits _ below = ((omega arith, below), fits.1)
applied_fits s (Add k) fits _ below = ((omega arith, below), (omega arith, raised_fits s.sum k fits.1.1))

applied_has_count : (s : TallyState) (c : TallyCommand) → (tally_applied s c).count ≡ s.count + 1
applied_has_count s Noop = refl
applied_has_count s (Add k) = refl

applied_is_safe : (s : TallyState) (c : TallyCommand) → s.sum ≤ 1000 → (tally_applied s c).sum ≤ 1000
applied_is_safe s Noop safe = safe
applied_is_safe s (Add k) safe = let low = raised_fits s.sum k (omega arith) in omega arith

its_own : (b : Bool) (r : Refusal) → cond b None (Some OutOfRange) ≡ Some r → IsMachineRefusal r
its_own true r e = absurd cc
its_own false r e = let same : OutOfRange ≡ r = cc in subst IsMachineRefusal same tt

refusal_is_its_own : (s : TallyState) (c : TallyCommand) (r : Refusal) → tally_admission s c ≡ Some r → IsMachineRefusal r
refusal_is_its_own s Noop r e = absurd cc
refusal_is_its_own s (Add k) r e = its_own (ltb (s.sum + k) 1001) r e

pub tally_lawful : LawfulMachine tally_spec
tally_lawful = record {
  states_lawful = λ version. tally_is_lawful;
  commands_lawful = λ version. tally_command_lawful;
  states_short = λ version. omega arith;
  commands_short = λ version. omega arith;
  states_stay = λ version s fits. fits;
  commands_stay = λ version c fits. fits;
  empty_fits = ((omega arith, omega arith), (omega arith, omega arith));
  empty_is_safe = omega arith;
  empty_has_count = refl;
  noop_fits = ((omega arith, omega arith), tt);
  noop_is_admitted = λ s fits. refl;
  count_is_below = λ s fits. fits.0.1;
  applied_fits = applied_fits;
  applied_has_count = applied_has_count;
  admitted_is_safe = λ s c fits _ safe none. applied_is_safe s c safe;
  refusal_is_its_own = refusal_is_its_own;
}
