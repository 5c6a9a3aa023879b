use Rattle.world.proofs.GroupShown.{step_shown}
use Rattle.world.proofs.group.world.World.step.Goals as goal

pub returns-clause-shown : goal.returns-clause-shown
returns-clause-shown c = let s = c.happen-done.ensures in step_shown c.args.self.now c.happen-done.new.self _ c.happen-done.result s.ok s.err c.one_list.ensures
