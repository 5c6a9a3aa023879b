use Rattle.std.proofs.Common.{ap, ◌∙◌}
use Rattle.fsm_state.specs.Inner.Alone.{has_room}
use Rattle.fsm_state.proofs.cluster.Cluster.has_number_room.Goals as goal

pub returns : goal.returns
returns c = c.has_room.ensures ∙ ap (has_room c.args.self.now c.args.ended.now c.args.wanted.now) c.in-Some.ensures.some.0
