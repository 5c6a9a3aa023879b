-- The newest state that was told of.
use Rattle.std.specs.Arc.{arc_value}
use Rattle.sim_tell.specs.declared.newest.Newest.{Newest}
use Rattle.sim_tell.specs.Marks.{Mark}

abbrev pub mark_of : Newest → Mark
mark_of newest = record { state = arc_value newest.state; applied = newest.applied }
