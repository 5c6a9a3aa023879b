use Rattle.test_servers.proofs.tests.waiting.each_turn_calls_workers.Given as goal

abbrev pub ghosts-call : goal.ghosts-call
ghosts-call g a = record { table = a.opened.0; actors = a.opened.1; nodes = a.nodes.items }
