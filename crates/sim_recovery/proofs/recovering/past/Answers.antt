use Rattle.std.proofs.Common.{◌∙◌, ap, length, sym}
use Rattle.std.proofs.lemmas.List.{length-map}
use Rattle.group_inputs.specs.Events.{group_event}
use Rattle.sim_recovery.proofs.recovering.past.Goals as goal

pub returns : goal.returns
returns c = sym (length-map c.trace.result.now group_event) ∙ ap length c.trace.ensures.value
