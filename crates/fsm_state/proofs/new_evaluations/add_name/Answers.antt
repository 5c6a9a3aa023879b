use Rattle.fsm_state.proofs.Touching.{name_added}
use Rattle.fsm_state.proofs.new_evaluations.add_name.Goals as goal

pub returns : goal.returns
returns c = name_added c.args.name c.args.names.now c.insert.new.self c.in_ok-insert.ensures.updates
