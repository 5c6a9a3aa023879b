use Rattle.event_book.specs.Noted.{noted_view}
use Rattle.event_book.proofs.seat.ActorSeat.note.Given as goal

abbrev pub ghosts-note_as : goal.ghosts-note_as
ghosts-note_as g a = record { noted = noted_view g.O.Outputs.listed a.noted.now }
