-- The book's actors and nodes are those that the row's group is opened with.
use Rattle.test_servers.proofs.tests.starved.turns.play_turns.Given as goal

abbrev pub ghosts-play_cells : goal.ghosts-play_cells
ghosts-play_cells g a = record { table = a.opened.0; actors = a.opened.1; nodes = a.row.now.nodes.items }
