use Rattle.fsm_model.specs.ClusterMachine.{cluster_spec}
use Rattle.fsm_model.proofs.ClusterMachine.{cluster_lawful}
use Rattle.group_frames.proofs.OneFrame.{one_frame}
use Rattle.group_frames.proofs.OneMessage.{one_message}
use Rattle.group_frames.proofs.SomeMessage.{some_message}
use Rattle.group_frames.proofs.frames_are_of_one_message.Goals as goal

pub returns-clause-one : goal.returns-clause-one
returns-clause-one c = one_message cluster_spec cluster_lawful

pub returns-clause-some : goal.returns-clause-some
returns-clause-some c = some_message cluster_spec

pub returns-clause-alone : goal.returns-clause-alone
returns-clause-alone c = one_frame cluster_spec
