-- Which steps the complaints of lines name.
use Rattle.std.proofs.Common.{◌≡◌, ◌∙◌, ◌+◌, ◌<◌, ◌≤◌, ◌++◌, ◌∷◌, ◌↔◌, inl, inr, ℕ, zero, suc, List, [], Some, arith, length, refl, slice_get, subst, sym}
use Rattle.std.specs.List.{Contains}
use Rattle.std.proofs.lemmas.List.Elements.{Contains-append_cases, Contains-append_left, Contains-append_right}
use Rattle.std.proofs.lemmas.Option.{same_Some}
use Rattle.sim_scenario.specs.declared.checking.Complaint.{Complaint}
use Rattle.sim_scenario.specs.declared.checking.Complaint.TheVariants as complaints
use Rattle.sim_scenario.specs.declared.scenario.Scenario.{Scenario}
use Rattle.sim_scenario.specs.Complaints.{AreLineComplaints, AreRisingFrom, IsNamed, IsOfStep, IsStepComplaint, IsStepLine, IsWrongFrom, NamesWrongSteps}
use Rattle.sim_scenario.specs.EachLine.{OfEachLine}
use Rattle.sim_scenario.specs.Objects.{step_lines}

-- ---- one complaint

none_among : (one : Complaint) → Contains [] one → ⊥
none_among one has = absurd (omega (arith, has.1))

among_one : (only one : Complaint) → Contains (only ∷ []) one → only ≡ one
among_one only one (zero, within, at) = at
among_one only one (suc k, within, at) = absurd (omega (arith, within))

is_among : (only : Complaint) → Contains (only ∷ []) only
is_among only = (zero, omega arith, refl)

its_number : (k number : ℕ) (line : List ℕ) (one : Complaint) → IsStepComplaint k line one → IsOfStep number one → number ≡ k
its_number k number line (complaints.Text wrong) is of = absurd is
its_number k number line (complaints.Step own text flaw) is of = sym of ∙ is.0

has_number : (k : ℕ) (line : List ℕ) (one : Complaint) → IsStepComplaint k line one → IsOfStep k one
has_number k line (complaints.Text wrong) is = absurd is
has_number k line (complaints.Step own text flaw) is = is.0

-- ---- those of lines

named_is_wrong : (k : ℕ) (lines : List (List ℕ)) (found : List Complaint) → OfEachLine AreLineComplaints k lines found → (number : ℕ) → IsNamed found number → IsWrongFrom k lines number
named_is_wrong k [] found are number named = absurd (none_among named.0 (subst (λ xs. Contains xs named.0) are named.1))
named_is_wrong k (line ∷ lines) found are number named =
    elim (Contains-append_cases are.0 are.1 named.0 (subst (λ xs. Contains xs named.0) are.2 named.1)) [
      | inl own ↦ elim are.3 [
        | inl good ↦ absurd (none_among named.0 (subst (λ xs. Contains xs named.0) good.1 own))
        | inr bad ↦
            let one = bad.1.0 in
            let same : one ≡ named.0 = among_one one named.0 (subst (λ xs. Contains xs named.0) bad.1.1 own) in
            let is = its_number k number line named.0 (subst (IsStepComplaint k line) same bad.1.2) named.2 in
            (zero, line, omega (arith, is), refl, bad.0)
      ]
      | inr others ↦
          let wrong = named_is_wrong (suc k) lines are.1 are.4 number (named.0, others, named.2) in
          (suc wrong.0, wrong.1, omega (arith, wrong.2), wrong.3, wrong.4)
    ]

wrong_is_named : (k : ℕ) (lines : List (List ℕ)) (found : List Complaint) → OfEachLine AreLineComplaints k lines found → (number : ℕ) → IsWrongFrom k lines number → IsNamed found number
wrong_is_named k [] found are number (i, line, is, at, bad) = absurd (cc)
wrong_is_named k (first ∷ lines) found are number (zero, line, is, at, bad) =
    elim are.3 [
      | inl good ↦ absurd (bad (subst IsStepLine (same_Some first line at) good.0))
      | inr own ↦
          let one = own.1.0 in
          let has : Contains are.0 one = subst (λ xs. Contains xs one) (sym own.1.1) (is_among one) in
          let number_is : k ≡ number = omega (arith, is) in (
            one,
            subst (λ xs. Contains xs one) (sym are.2) (Contains-append_left are.0 are.1 one has),
            subst (λ n. IsOfStep n one) number_is (has_number k first one own.1.2),
          )
    ]
wrong_is_named k (first ∷ lines) found are number (suc i, line, is, at, bad) =
    let named = wrong_is_named (suc k) lines are.1 are.4 number (i, line, omega (arith, is), at, bad) in
    (named.0, subst (λ xs. Contains xs named.0) (sym are.2) (Contains-append_right are.0 are.1 named.0 named.1), named.2)

-- ---- their numbers rise

rising_less : (j k : ℕ) (found : List Complaint) → j ≤ k → AreRisingFrom k found → AreRisingFrom j found
rising_less j k [] less are = tt
rising_less j k (complaints.Text wrong ∷ others) less are = are
rising_less j k (complaints.Step number text flaw ∷ others) less are = (omega (arith, less, are.0), are.1)

one_before : (k : ℕ) (line : List ℕ) (one : Complaint) (others : List Complaint) → IsStepComplaint k line one → AreRisingFrom (suc k) others → AreRisingFrom k (one ∷ others)
one_before k line (complaints.Text wrong) others is are = absurd is
one_before k line (complaints.Step number text flaw) others is are =
    (omega (arith, is.0), subst (λ n. AreRisingFrom (suc n) others) (sym is.0) are)

rise : (k : ℕ) (lines : List (List ℕ)) (found : List Complaint) → OfEachLine AreLineComplaints k lines found → AreRisingFrom k found
rise k [] found are = subst (AreRisingFrom k) (sym are) tt
rise k (line ∷ lines) found are =
    let others = rise (suc k) lines are.1 are.4 in
    subst (AreRisingFrom k) (sym are.2)
    (elim are.3 [
      | inl good ↦ subst (λ own. AreRisingFrom k (own ++ are.1)) (sym good.1) (rising_less k (suc k) are.1 (omega arith) others)
      | inr bad ↦ subst (λ own. AreRisingFrom k (own ++ are.1)) (sym bad.1.1) (one_before k line bad.1.0 are.1 bad.1.2 others)
    ])

pub names_wrong_steps : (s : Scenario) (found : List Complaint) → OfEachLine AreLineComplaints 1 (step_lines s) found → NamesWrongSteps s found
names_wrong_steps s found are = record {
  named = λ number. (named_is_wrong 1 (step_lines s) found are number, wrong_is_named 1 (step_lines s) found are number);
  rising = rise 1 (step_lines s) found are;
}
