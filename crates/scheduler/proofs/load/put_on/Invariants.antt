use Rattle.std.proofs.Common.{◌≡◌, ◌++◌, map, take, drop}
use Rattle.scheduler.specs.Inner.Loads.{with_load}
use Rattle.scheduler.proofs.load.put_on.Given as goal

abbrev pub invariant-loop-load : goal.invariant-loop-load
invariant-loop-load l =
    let f = with_load l.place in
    take l.load-index l.loads ++ map f (drop l.load-index l.loads) ≡ map f l.fn.loads
