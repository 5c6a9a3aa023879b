use Rattle.std.proofs.Common.{subst}
use Rattle.world.specs.WorldView.{WorldView}
use Rattle.world.specs.Claims.{OneListEver}
use Rattle.world.proofs.Runs.{one_list_ever}
use Rattle.world.proofs.world.RaftWorld.one_list.Goals as goal

pub returns : goal.returns
returns g c =
    let l = c.one_list.ensures in
    subst (λ (x : WorldView g.row.M.Denot g.row.M-Command.Denot). OneListEver g.M.Machine.spec x) c.self.view_is (one_list_ever g.M.Machine.spec _ c.self.invariant l.exists l.long l.number)
