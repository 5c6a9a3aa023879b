use Rattle.std.proofs.Common.{inl, inr, refl, rules}
use Rattle.sim_play.proofs.lines.play_line.Goals as goal

pub returns-in-Ok-clause-played : goal.returns-in-Ok-clause-played
returns-in-Ok-clause-played c = record { step = _; named = c.in_ok-step.ensures.named; became = inl (search rules, refl) }

pub returns-in-Err-clause-played : goal.returns-in-Err-clause-played
returns-in-Err-clause-played c = record { step = _; named = c.in_ok-step.ensures.named; became = inr (c.in-Err.refusal, search rules, refl) }
