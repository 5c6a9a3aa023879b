-- Nothing is wrong with a text just where each step is one.
use Rattle.std.proofs.Common.{◌≡◌, ◌∙◌, ◌++◌, ◌∷◌, ◌↔◌, inl, inr, ℕ, List, [], ap, ap₂, codes, refl, subst, suc, sym}
use Rattle.std.specs.List.{All, AllByRecursion}
use Rattle.std.proofs.lemmas.List.Elements.{All-from_recursion, recursion_from_All}
use Rattle.serde_json.specs.View.{items_of}
use Rattle.sim_scenario.specs.declared.checking.Complaint.{Complaint}
use Rattle.sim_scenario.specs.declared.scenario.Scenario.{Scenario}
use Rattle.sim_scenario.specs.Complaints.{AreComplaints, AreLineComplaints, IsGoodText, IsStepLine}
use Rattle.sim_scenario.specs.EachLine.{OfEachLine}
use Rattle.sim_scenario.specs.Objects.{IsScenarioText, list_at, step_lines, strings}
use Rattle.sim_scenario.proofs.Objects.{same_items}

-- ---- a text is the scenario of one list of steps

same_texts : (xs ys : List (List ℕ)) → strings xs ≡ strings ys → xs ≡ ys
same_texts [] [] e = refl
same_texts [] (y ∷ ys) e = cc
same_texts (x ∷ xs) [] e = cc
same_texts (x ∷ xs) (y ∷ ys) e =
    let head : x ≡ y = cc in
    let rest : strings xs ≡ strings ys = cc in
    ap₂ (λ a b. a ∷ b) head (same_texts xs ys rest)

pub same_lines : (text : List ℕ) (s t : Scenario) → IsScenarioText text s → IsScenarioText text t → step_lines s ≡ step_lines t
same_lines text s t is also =
    let data_read = is.1.1 in
    let data_again = also.1.1 in
    let same : is.1.0 ≡ also.1.0 = cc in
    let ours = is.1.2.steps in
    let theirs = also.1.2.steps in
    let moved : list_at (codes "steps") is.1.0 ≡ list_at (codes "steps") also.1.0 = ap (list_at (codes "steps")) same in
    let items : items_of (strings (step_lines s)) ≡ items_of (strings (step_lines t)) = cc in
    same_texts (step_lines s) (step_lines t) (same_items (strings (step_lines s)) (strings (step_lines t)) items)

-- ---- lists that are empty

empty_front : {X : Type 0} (xs ys : List X) → xs ++ ys ≡ [] → xs ≡ []
empty_front [] ys e = refl
empty_front (x ∷ xs) ys e = cc

empty_back : {X : Type 0} (xs ys : List X) → xs ++ ys ≡ [] → ys ≡ []
empty_back [] ys e = e
empty_back (x ∷ xs) ys e = cc

-- ---- complaints of lines

nothing_of_line : (k : ℕ) (line : List ℕ) (own : List Complaint) → IsStepLine line → AreLineComplaints k line own → own ≡ []
nothing_of_line k line own is (inl good) = good.1
nothing_of_line k line own is (inr bad) = absurd (bad.0 is)

good_line : (k : ℕ) (line : List ℕ) (own : List Complaint) → own ≡ [] → AreLineComplaints k line own → IsStepLine line
good_line k line own none (inl good) = good.0
good_line k line own none (inr bad) = let one = bad.1.1 in absurd (cc)

nothing_of_good : (k : ℕ) (lines : List (List ℕ)) (found : List Complaint) → AllByRecursion IsStepLine lines → OfEachLine AreLineComplaints k lines found → found ≡ []
nothing_of_good k [] found all are = are
nothing_of_good k (line ∷ lines) found all are =
    are.2 ∙ ap₂ (λ a b. a ++ b) (nothing_of_line k line are.0 all.0 are.3) (nothing_of_good (suc k) lines are.1 all.1 are.4)

good_of_nothing : (k : ℕ) (lines : List (List ℕ)) (found : List Complaint) → found ≡ [] → OfEachLine AreLineComplaints k lines found → AllByRecursion IsStepLine lines
good_of_nothing k [] found none are = tt
good_of_nothing k (line ∷ lines) found none are =
    let empty = sym are.2 ∙ none in
    (good_line k line are.0 (empty_front are.0 are.1 empty) are.3, good_of_nothing (suc k) lines are.1 (empty_back are.0 are.1 empty) are.4)

-- ---- complaints of texts

pub nothing_is_good : (text : List ℕ) (found : List Complaint) → AreComplaints text found → (found ≡ []) ↔ IsGoodText text
nothing_is_good text found (inl (s, is, are)) = (
  λ none. (s, is, All-from_recursion IsStepLine (step_lines s) (good_of_nothing 1 (step_lines s) found none are)),
  λ good.
      let all = subst (λ lines. All IsStepLine lines) (sym (same_lines text s good.0 is good.1)) good.2 in
      nothing_of_good 1 (step_lines s) found (recursion_from_All IsStepLine (step_lines s) all) are,
)
nothing_is_good text found (inr (none, (one, is, of))) = (
  λ empty. absurd (cc),
  λ good. absurd (none good.0 good.1),
)
