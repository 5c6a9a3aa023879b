use Rattle.std.proofs.Common.{length, subst}
use Rattle.rows.specs.GroupSizes.{IsGroup}
use Rattle.world.specs.WorldView.{WorldView}
use Rattle.world.proofs.world.RaftWorld.size_is_3_or_5.Goals as goal

pub returns : goal.returns
returns g c = let i = c.self.invariant in subst (λ (x : WorldView g.row.M.Denot g.row.M-Command.Denot). IsGroup (length x.servers)) c.self.view_is i.size
