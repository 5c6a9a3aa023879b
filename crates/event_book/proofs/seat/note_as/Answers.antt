use Rattle.std.proofs.Common.{rules}
use Rattle.event_book.proofs.Moves.{notes_as}
use Rattle.event_book.proofs.seat.note_as.Goals as goal

pub fetch_add-requires : goal.fetch_add-requires
fetch_add-requires g c = let allows = notes_as c.args.book.now.table.shared.key.items c.args.book.now.table.shared.table_id.slots c.args.holder.now.id c.args.holder.now.me g.J.NotedBy.noted c.requires.seat c.requires.room c.requires.may in (search rules, search rules, search rules)
