use Rattle.std.proofs.Common.{◌⊎◌, inl, inr, refl}
use Rattle.sim_files.proofs.running.scenario_of_text.Goals as goal

either : {A B : Type 0} (C : Type 0) → A ⊎ B → (A → C) → (B → C) → C
either C (inl a) f g = f a
either C (inr b) f g = g b

pub returns-in_default : goal.returns-in_default
returns-in_default c = record {
  ok = tt;
  fault = inr (refl, λ is. either ⊥ c.in-Err.ensures.refused (λ e. c.in_default.not-NoMemory e) (λ none. none.1 is.0 is.1));
  of_run = tt;
}
