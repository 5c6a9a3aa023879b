use Rattle.fsm_state.proofs.StateTexts.{all_fit}
use Rattle.fsm_state.proofs.cluster.Cluster.fits.Goals as goal

pub returns : goal.returns
returns c = all_fit c.args.self.now c.ranges-2.ensures.count c.ranges-2.ensures.tables
