use Rattle.std.proofs.Common.{refl}
use Rattle.sim_expand.proofs.Delivering.{net_moves}
use Rattle.sim_expand.proofs.expanding.Taken.fate.Goals as goal

pub returns-clause-none : goal.returns-clause-none
returns-clause-none c = let play = c.args.self.now.play in net_moves c.args.self.now _ play.flight c.next.new.self c.requires.stands c.requires.behind refl
