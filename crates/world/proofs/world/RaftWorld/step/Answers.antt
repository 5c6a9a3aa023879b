use Rattle.world.proofs.Standings.{stood_after}
use Rattle.world.proofs.world.RaftWorld.step.Goals as goal

pub returns-clause-stood : goal.returns-clause-stood
returns-clause-stood g c index term command stood = stood_after g.M.Machine.spec c.args.self.now c.happen-done.new.self _ c.happen-done.result c.happen-done.ensures.ok c.happen-done.ensures.err index term command stood
