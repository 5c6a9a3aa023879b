use Rattle.std.proofs.lemmas.Slice.Eq.{slice_eq-Decides}
use Rattle.sim_expand.proofs.Texts.{nodes_decide}
use Rattle.sim_expand.proofs.plain.are_nodes.Goals as goal

pub returns : goal.returns
returns c = slice_eq-Decides nodes_decide c.args.own.now c.args.nodes.now c.eq.result c.eq.ensures
