use Rattle.std.proofs.Common.{◌≡◌, ◌++◌, map, take}
use Rattle.std.specs.List.{filter}
use Rattle.sim_scenario.specs.Notes.{needs_note, note_of}
use Rattle.sim_scenario.proofs.noting.note_groups.Given as goal

-- the notes of the groups so far
abbrev pub invariant-loop-group : goal.invariant-loop-group
invariant-loop-group l =
    l.found.items ≡ l.fn.found.items ++ map (note_of l.step l.job.name) (filter (needs_note l.nodes) (take l.group-index l.groups))
