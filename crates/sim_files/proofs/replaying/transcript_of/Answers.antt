use Rattle.std.proofs.Common.{◌≡◌, ap, inl, inr}
use Rattle.sim_files.specs.declared.fault.Fault.TheVariants as faults
use Rattle.sim_files.proofs.replaying.transcript_of.Goals as goal

pub returns-in_ok-hint_of-in-Err-Frame-clause-fault : goal.returns-in_ok-hint_of-in-Err-Frame-clause-fault
returns-in_ok-hint_of-in-Err-Frame-clause-fault c =
    let hint = c.in_ok-hint_of-in-Err-Frame.field-0 in
    elim c.in-Err-Frame.ensures.refused [
      | inl none ↦ absurd (cc)
      | inr at ↦
          let place : c.in-Err-Frame.place ≡ at.0 = cc in
          inr (at.0, hint, ap (λ k. faults.BadTranscript k hint) place, at.2, at.3)
    ]
