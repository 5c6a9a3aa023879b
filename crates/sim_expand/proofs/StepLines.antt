-- Lines that are made of words.
use Rattle.std.proofs.Common.{◌≡◌, ◌==◌, ℕ, false, List, IfOk, Result, Ok, Err, String, get_or, string_bytes, subst, sym}
use Rattle.std.specs.declared.alloc.Global.{Global}
use Rattle.sim_scenario.specs.Steps.{IsLine, Step}
use Rattle.sim_expand.specs.Inner.Taking.{IsNoFlowLine}
use Rattle.sim_expand.proofs.Flows.{third_letter}

-- a text that is a step's line, and no flow's
pub if_says : {E : Type 0} (r : Result (String Global) E) (line : List ℕ) (step : Step) → IsLine step line → (get_or line 2 0 == 111) ≡ false → IfOk r (λ text. string_bytes text ≡ line)
    → IfOk r (λ text. IsNoFlowLine (string_bytes text))
if_says (Ok text) line step is third says = subst IsNoFlowLine (sym says) (record { step = (step, is); other = third_letter line third })
if_says (Err e) line step is third says = tt
