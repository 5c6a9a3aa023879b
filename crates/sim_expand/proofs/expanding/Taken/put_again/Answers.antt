use Rattle.std.proofs.Common.{refl}
use Rattle.sim_expand.proofs.Delivering.{net_moves}
use Rattle.sim_expand.proofs.Taking.{on_ok}
use Rattle.sim_expand.proofs.expanding.Taken.put_again.Goals as goal

pub returns : goal.returns
returns c =
    let play = c.args.self.now.play in
    on_ok c.put_again.result (net_moves c.args.self.now _ c.put_again.new.self play.fates c.requires.stands c.requires.behind refl)
