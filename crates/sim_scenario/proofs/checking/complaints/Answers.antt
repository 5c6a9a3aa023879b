use Rattle.std.proofs.Common.{Err, IfOk, List, Ok, Result, ◌⊎◌, inl, inr, subst, sym}
use Rattle.sim_scenario.specs.declared.checking.Complaint.{Complaint}
use Rattle.sim_scenario.specs.declared.scenario.Scenario.{Scenario}
use Rattle.sim_scenario.specs.Complaints.{AreComplaints, AreLineComplaints, AreTextComplaints}
use Rattle.sim_scenario.specs.EachLine.{OfEachLine}
use Rattle.sim_scenario.specs.Objects.{IsScenarioText, step_lines}
use Rattle.sim_scenario.proofs.Complaints.{nothing_is_good, same_lines}
use Rattle.sim_scenario.proofs.NamedSteps.{names_wrong_steps}
use Rattle.sim_scenario.proofs.checking.complaints.Goals as goal

mapped : {X E : Type 0} (P Q : X → Type 0) (r : Result X E) → ((x : X) → P x → Q x) → IfOk r P → IfOk r Q
mapped P Q (Ok x) f h = f x h
mapped P Q (Err e) f h = tt

either : {A B : Type 0} (C : Type 0) → A ⊎ B → (A → C) → (B → C) → C
either C (inl a) f g = f a
either C (inr b) f g = g b

pub returns-in-Ok : goal.returns-in-Ok
returns-in-Ok c =
    let text = c.args.text.now in
    let are : (found : List Complaint) → OfEachLine AreLineComplaints 1 (step_lines c.in-Ok.scenario) found → AreComplaints text found = λ found each. inl (c.in-Ok.scenario, c.in-Ok.ensures.ok, each) in
    record {
      each = mapped _ _ c.bad_steps.result (λ found each. are found.items each) c.bad_steps.ensures;
      none = mapped _ _ c.bad_steps.result (λ found each. nothing_is_good text found.items (are found.items each)) c.bad_steps.ensures;
      steps =
          mapped _ _ c.bad_steps.result
          (λ found each s is. names_wrong_steps s found.items (subst (λ lines. OfEachLine AreLineComplaints 1 lines found.items) (same_lines text c.in-Ok.scenario s c.in-Ok.ensures.ok is) each))
          c.bad_steps.ensures;
    }

pub returns-in_default : goal.returns-in_default
returns-in_default c =
    let text = c.args.text.now in
    let none : (s : Scenario) → ¬ IsScenarioText text s = λ s is. either ⊥ c.in-Err.ensures.refused (λ e. c.in_default.not-NoMemory e) (λ h. h.1 s is) in
    let are : (found : List Complaint) → AreTextComplaints found → AreComplaints text found = λ found one. inr (none, one) in
    record {
      each = mapped _ _ c.bad_text.result (λ found one. are found.items one) c.bad_text.ensures;
      none = mapped _ _ c.bad_text.result (λ found one. nothing_is_good text found.items (are found.items one)) c.bad_text.ensures;
      steps = mapped _ _ c.bad_text.result (λ found one s is. absurd (none s is)) c.bad_text.ensures;
    }
