use Rattle.test_servers.proofs.tests.held_cells.cells_in_hand_take_the_same_turns.Given as goal

abbrev pub ghosts-play : goal.ghosts-play
ghosts-play g a = record { table = a.opened.0; actors = a.opened.1; nodes = a.nodes.items }
