use Rattle.recovery.specs.Inner.Drives.{WentOf}
use Rattle.recovery.specs.Inner.DownServers.{RestartedSoFar}
use Rattle.recovery.proofs.down_servers.restart_all.Given as goal

abbrev pub invariant-loop-position : goal.invariant-loop-position
invariant-loop-position g l = WentOf g.D.Driven.drive l.fn.world l.world (λ ts w v. RestartedSoFar g.D.Of.Machine.spec g.D.Driven.drive g.D.Driven.restarting l.position ts w v)
