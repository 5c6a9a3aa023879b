use Rattle.std.proofs.Common.{◌≡◌, Bor, subst, slice_get}
use Rattle.std.specs.Option.{option_copied}
use Rattle.std.specs.List.{HoldsAt}
use Rattle.raft_core.specs.RaftView.{RaftView}
use Rattle.world.specs.WorldView.{WorldView}
use Rattle.world.proofs.Zips.{looked_up}
use Rattle.world.proofs.world.RaftWorld.raft.Goals as goal

pub returns : goal.returns
returns g c =
    let servers = c.deref.result.now in
    let position = c.position.result in
    let look = c.get.ensures.lookup in
    subst (λ (x : WorldView g.row.M.Denot g.row.M-Command.Denot). option_copied c.get.result ≡ slice_get x.servers c.args.server) c.self.view_is (rw (← c.position.ensures.value, ← c.deref.ensures.value)
    (looked_up servers position (λ (x : Bor (RaftView g.row.M.Denot g.row.M-Command.Denot)). HoldsAt (λ y. x.now ≡ y) servers position) c.get.result look.1 look.3))
