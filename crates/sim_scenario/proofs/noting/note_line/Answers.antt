use Rattle.std.proofs.Common.{[], inr, refl, sym}
use Rattle.std.proofs.lemmas.List.{append-nil}
use Rattle.sim_scenario.specs.Complaints.{IsStepLine}
use Rattle.sim_scenario.proofs.noting.note_line.Goals as goal

pub returns-in-None : goal.returns-in-None
returns-in-None c =
    let none : ¬ IsStepLine c.args.line.now = λ line. let read = rw c.in-None.is at (c.in_ok-step.ensures.read line.0 line.1) in absurd (cc) in
    ([], inr (none, refl), sym (append-nil c.args.found.now.items))
