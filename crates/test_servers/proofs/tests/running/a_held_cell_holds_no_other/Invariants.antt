use Rattle.test_servers.proofs.tests.running.a_held_cell_holds_no_other.Given as goal

abbrev pub ghosts-hold_a_cell : goal.ghosts-hold_a_cell
ghosts-hold_a_cell g a = record { table = a.opened.0; actors = a.opened.1; nodes = a.nodes.items }
