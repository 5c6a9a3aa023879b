use Rattle.world.proofs.GroupStates.{states_history}
use Rattle.world.proofs.group.world.World.states.Goals as goal

pub returns-clause-history : goal.returns-clause-history
returns-clause-history c =
    states_history c.args.self.now c.one_list.ensures c.args.one c.args.other c.in_ok-state.field-0.now c.in_ok-state-2.field-0.now
    c.in_ok-state.ensures.value c.in_ok-state-2.ensures.value
