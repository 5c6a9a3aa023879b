use Rattle.test_servers.proofs.tests.held_cells.cells_open_for_the_actors_of_a_group.Given as goal

abbrev pub ghosts-open : goal.ghosts-open
ghosts-open g a = record { table = a.opened.0; actors = a.opened.1; nodes = a.nodes.items }
