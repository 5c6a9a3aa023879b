use Rattle.recovery.proofs.GroupDriving.{group_lawful}
use Rattle.recovery.proofs.group_driven.WorldDriven.has_run.Goals as goal

pub returns-clause-law : goal.returns-clause-law
returns-clause-law c = group_lawful
