use Rattle.event_book.proofs.Tokens.{may_after}
use Rattle.test_units.proofs.tests.books.take.Goals as goal

pub note-requires : goal.note-requires
note-requires g c = may_after _ _ _ _ _ _ c.take_in.ensures c.requires.names
