use Rattle.fields_model.proofs.RangeLaws.{fits_state, state_fits, fits_command, command_fits}
use Rattle.fields_model.proofs.laws.texts_are_within_limits.Goals as goal

pub returns : goal.returns
returns c = record { state = fits_state; only_state = state_fits; command = fits_command; only_command = command_fits }
