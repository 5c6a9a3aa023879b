use Rattle.std.proofs.Common.{sym, subst}
use Rattle.fsm_model.specs.ClusterMachine.{cluster_spec}
use Rattle.recovery.specs.Inner.Drives.{StandsThere}
use Rattle.recovery.specs.Inner.Kinds.{group_drive}
use Rattle.recovery.proofs.GroupDriving.{group_is_there, group_is_not_there}
use Rattle.recovery.proofs.group_driven.WorldDriven.log_of.Goals as goal

pub returns-in-Some-clause-some : goal.returns-in-Some-clause-some
returns-in-Some-clause-some c = subst (λ h. StandsThere group_drive cluster_spec c.args.server h c.args.self.now) (sym c.raft.ensures) (group_is_there c.args.self.now c.args.server c.in-Some.server.now (sym c.in-Some.ensures))

pub returns-in-None-clause-none : goal.returns-in-None-clause-none
returns-in-None-clause-none c = group_is_not_there c.args.self.now c.args.server (sym c.in-None.ensures)
