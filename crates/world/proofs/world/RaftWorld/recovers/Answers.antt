use Rattle.std.proofs.Common.{subst}
use Rattle.world.specs.WorldView.{WorldView}
use Rattle.world.specs.Claims.{RecoversEver}
use Rattle.world.proofs.Recoveries.{recovers_ever}
use Rattle.world.proofs.world.RaftWorld.recovers.Goals as goal

pub returns : goal.returns
returns g c =
    subst (λ (x : WorldView g.row.M.Denot g.row.M-Command.Denot). RecoversEver g.M.Machine.spec x) c.self.view_is
    (recovers_ever g.M.Machine.spec _ c.self.invariant c.never_stuck.ensures c.each_group_recovers.ensures)
