use Rattle.std.proofs.Common.{◌≡◌, ◌++◌, map, option_map, take, drop}
use Rattle.scheduler.specs.Inner.Loads.{load_less}
use Rattle.scheduler.proofs.load.take_off.Given as goal

abbrev pub invariant-loop-load : goal.invariant-loop-load
invariant-loop-load l =
    let f = load_less (option_map (λ r. r.now) l.row) in
    take l.load-index l.loads ++ map f (drop l.load-index l.loads) ≡ map f l.fn.loads
