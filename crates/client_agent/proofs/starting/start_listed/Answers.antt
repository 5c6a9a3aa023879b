use Rattle.client_agent.proofs.Fits.{fit_beside}
use Rattle.client_agent.proofs.starting.start_listed.Goals as goal

pub returns-clause-fit : goal.returns-clause-fit
returns-clause-fit c = fit_beside c.args.whole c.loop-row.running.items c.loop-row.left c.loop-row.invariant.left
