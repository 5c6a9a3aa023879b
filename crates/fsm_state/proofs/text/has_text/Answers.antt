use Rattle.fields_model.proofs.RangeLaws.{fits_command}
use Rattle.fsm_state.proofs.text.has_text.Goals as goal

pub returns : goal.returns
returns c = fits_command c.args.value.now c.ranges-2.ensures
