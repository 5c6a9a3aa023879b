use Rattle.std.proofs.Common.{ap}
use Rattle.raft_snapshot.specs.Kept.{kept}
use Rattle.raft_snapshot.proofs.Blanks.{shown_gone}
use Rattle.raft_snapshot.proofs.log.Log.rebase.Goals as goal

pub returns : goal.returns
returns g c =
    let m = g.M.Machine.spec in
    let i = c.self.inside in
    rw (← c.self.view_is) (ap (kept m c.args.snapshot) (rw c.drop_front.ensures (shown_gone m i.base.index i.base.term i.tail.items c.args.gone)))
