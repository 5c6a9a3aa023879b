use Rattle.std.proofs.Common.{rules}
use Rattle.sim_expand.proofs.plain.are_settings.Goals as goal

pub returns : goal.returns
returns c = ((λ is. search rules), (λ same. let is = rw same at c.eq.ensures in search rules))
