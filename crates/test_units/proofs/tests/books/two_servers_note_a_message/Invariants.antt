use Rattle.std.proofs.Common.{[]}
use Rattle.test_units.proofs.tests.books.two_servers_note_a_message.Given as goal

abbrev pub ghosts-play : goal.ghosts-play
ghosts-play g a = record { table = a.opened.0; actors = a.opened.1; nodes = [] }
