use Rattle.std.proofs.Common.{take}
use Rattle.std.specs.Io.KnownBytes.{Appends}
use Rattle.std.specs.List.{flat_map}
use Rattle.sim_files.specs.Notes.{note_line}
use Rattle.sim_files.proofs.checking.print_notes.Given as goal

-- the lines of the notes so far
abbrev pub invariant-loop-note : goal.invariant-loop-note
invariant-loop-note g l = Appends (g.W.Write.contents l.fn.out) (g.W.Write.contents l.out) (flat_map note_line (take l.note-index l.notes))
