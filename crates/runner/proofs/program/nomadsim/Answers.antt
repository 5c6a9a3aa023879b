use Rattle.std.proofs.Common.{inl, inr, ◌∙◌}
use Rattle.runner.proofs.Tellings.{help_is_told}
use Rattle.runner.proofs.program.nomadsim.Goals as goal

pub returns-in-Err-clause-told : goal.returns-in-Err-clause-told
returns-in-Err-clause-told g c few = inl (help_is_told _ c.in-Err.fault c.report.result c.in-Err.ensures.err c.report.ensures.status few)

pub returns-in-Err-clause-quiet : goal.returns-in-Err-clause-quiet
returns-in-Err-clause-quiet g c few =
    elim c.run.ensures.quiet [
      | inl same ↦ inl (c.report.ensures.quiet few ∙ same)
      | inr threads ↦ inr threads
    ]
