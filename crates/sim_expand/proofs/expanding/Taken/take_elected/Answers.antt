use Rattle.std.proofs.Common.{refl}
use Rattle.sim_expand.proofs.Delivering.{elect_taken}
use Rattle.sim_expand.proofs.expanding.Taken.take_elected.Goals as goal

pub returns-clause-ok : goal.returns-clause-ok
returns-clause-ok c = elect_taken c.args.self.now c.take_lines.new.self _ _ c.take_out.new.flight c.in_ok-take_lines.ensures.ok refl
