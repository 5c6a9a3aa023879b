use Rattle.std.proofs.Common.{subst}
use Rattle.world.specs.WorldView.{WorldView}
use Rattle.world.specs.Claims.{LogsMatchEver}
use Rattle.world.proofs.world.RaftWorld.log_matching.Goals as goal

pub returns : goal.returns
returns g c =
    let i = c.self.invariant in
    subst (λ (x : WorldView g.row.M.Denot g.row.M-Command.Denot). LogsMatchEver g.M.Machine.spec x) c.self.view_is
    (record { past = i.past; world = i.world; runs = i.runs; ever = λ past w r. c.log_matching.ensures _ _ past w r.run })
