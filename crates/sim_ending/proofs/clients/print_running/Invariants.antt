use Rattle.std.proofs.Common.{take, ◌++◌, codes}
use Rattle.std.specs.Io.KnownBytes.{Appends}
use Rattle.std.specs.List.{flat_map}
use Rattle.group_model.specs.Agents.{Running}
use Rattle.sim_ending.specs.Endings.{id_text}
use Rattle.sim_ending.proofs.clients.print_running.Given as goal

-- the ids of the others so far
abbrev pub invariant-loop-other : goal.invariant-loop-other
invariant-loop-other g l = Appends (g.W.Write.contents l.initial.out) (g.W.Write.contents l.out) (flat_map (λ (r : Running). codes "," ++ id_text r.id) (take l.other-index l.others))
