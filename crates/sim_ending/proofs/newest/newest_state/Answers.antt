use Rattle.sim_ending.proofs.Places.{found_state, none_found_up}
use Rattle.sim_ending.proofs.newest.newest_state.Goals as goal

pub returns-in_err-newest : goal.returns-in_err-newest
returns-in_err-newest c servers are = rw c.from_residual.ensures (none_found_up c.args.world.now.servers c.in_err-newest.ensures.found servers are)

pub returns : goal.returns
returns c = found_state c.args.world.now.servers c.in_ok-newest.newest c.server_at.result.now c.server_at.ensures c.in_ok-newest.ensures.found c.state.result c.state.ensures
