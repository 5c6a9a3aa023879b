use Rattle.std.proofs.Common.{◌∙◌, ap, map, string_bytes}
use Rattle.sim_tell.proofs.Growing.{grows}
use Rattle.sim_tell.proofs.lines.tell.Goals as goal

pub returns-clause-lines : goal.returns-clause-lines
returns-clause-lines g c =
    let told = c.in_ok-lines.ensures in
    grows c.print_lines.result _ _ _ _ _ _ told.0
    (c.in_ok-world.world, c.in_ok-world.ensures.new, told.1)
    (ap (map string_bytes) c.deref.ensures.value ∙ told.2)
    c.print_lines.ensures.lines
