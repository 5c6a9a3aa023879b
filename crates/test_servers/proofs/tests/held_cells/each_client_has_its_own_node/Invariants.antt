use Rattle.test_servers.proofs.tests.held_cells.each_client_has_its_own_node.Given as goal

abbrev pub ghosts-new_ones : goal.ghosts-new_ones
ghosts-new_ones g a = record { table = a.opened.0; actors = a.opened.1; nodes = a.nodes.items }
