use Rattle.test_servers.proofs.tests.running.overflows.Given as goal

abbrev pub ghosts-overflow : goal.ghosts-overflow
ghosts-overflow g a = record { table = a.opened.0; actors = a.opened.1; nodes = a.nodes.items }
