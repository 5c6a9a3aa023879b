use Rattle.fsm_model.proofs.OldTexts.{old_commands_have_none}
use Rattle.fsm_model.proofs.laws.old_commands_have_no_disk.Goals as goal

pub returns : goal.returns
returns c = old_commands_have_none
