-- Lines that were taken are steps', and bytes that come to no plain scenario.
use Rattle.std.proofs.Common.{◌≡◌, ◌∷◌, ℕ, List, [], inl, inr, subst}
use Rattle.std.specs.Prelude.{IsUtf8}
use Rattle.std.specs.List.{All, AllByRecursion}
use Rattle.std.proofs.lemmas.List.Elements.{All-from_recursion}
use Rattle.rows.specs.declared.refusal.Refusal.{Refusal}
use Rattle.sim_scenario.specs.Complaints.{IsStepLine}
use Rattle.sim_scenario.specs.Steps.{Step}
use Rattle.sim_play.specs.Played.{LinesPlayed, Refused}
use Rattle.runner.specs.Inner.Faults.{HasNoForm, WhyNoText, WhyNotExpanded}

module _ {S : Type 0} (Takes : Step → S → S → Type 0) (Refuses : Step → S → Refusal → S → Type 0) where
  each_step : (lines : List (List ℕ)) (old : S) (refused : List Refused) (new : S) → LinesPlayed Takes Refuses lines old refused new → AllByRecursion IsStepLine lines
  each_step [] old refused new played = tt
  each_step (line ∷ lines) old refused new played = ((played.4.step, played.4.named), each_step lines played.2 played.1 new played.5)

  pub played_steps : (lines : List (List ℕ)) (old : S) (refused : List Refused) (new : S) → LinesPlayed Takes Refuses lines old refused new → All IsStepLine lines
  played_steps lines old refused new played = All-from_recursion IsStepLine lines (each_step lines old refused new played)

-- a text that is not expanded is that of bytes that are not
pub no_text : (text bytes : List ℕ) (refusal : Refusal) → text ≡ bytes → IsUtf8 bytes → WhyNotExpanded text refusal → WhyNoText bytes refusal
no_text text bytes refusal same utf8 (inl memory) = inl (memory, utf8)
no_text text bytes refusal same utf8 (inr none) = inr (none.0, inr (subst HasNoForm same none.1))
