use Rattle.event_book.proofs.seat.ActorSeat.token.Given as goal

abbrev pub ghosts-token_as : goal.ghosts-token_as
ghosts-token_as g a = record { place = a.place }
