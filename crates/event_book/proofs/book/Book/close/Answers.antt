use Rattle.std.proofs.Common.{rules}
use Rattle.event_book.proofs.Moves.{looks_as, all_seats}
use Rattle.event_book.proofs.book.Book.close.Goals as goal

pub load-requires : goal.load-requires
load-requires g c = (search rules, search rules, looks_as _ _ _ _ _ c.loop-seat.invariant.1 c.args.self.keyed)

pub returns-clause-all : goal.returns-clause-all
returns-clause-all g c a inn = all_seats _ _ _ _ _ a c.load.ensures.2 (search rules) c.requires inn
