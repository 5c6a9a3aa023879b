use Rattle.machine_model.proofs.Afters.{after_good, after-count, Admitted-front}
use Rattle.machine_model.proofs.laws.admitted_is_safe.Goals as goal

pub returns : goal.returns
returns g c = let m = g.M.Machine.spec in let law = g.met.M.Machine.lawful in record {
  whole = λ cs a. (after_good m law cs a).safe;
  each = λ cs ds a. (after_good m law cs (Admitted-front m law cs ds a)).safe;
  count = after-count m law;
}
