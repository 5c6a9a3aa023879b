use Rattle.test_servers.proofs.tests.running.election.Given as goal

abbrev pub ghosts-stand : goal.ghosts-stand
ghosts-stand g a = record { table = a.opened.0; actors = a.opened.1; nodes = a.nodes.items }
