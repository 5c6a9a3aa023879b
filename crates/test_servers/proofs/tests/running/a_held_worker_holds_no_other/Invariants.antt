use Rattle.test_servers.proofs.tests.running.a_held_worker_holds_no_other.Given as goal

abbrev pub ghosts-hold_a_worker : goal.ghosts-hold_a_worker
ghosts-hold_a_worker g a = record { table = a.opened.0; actors = a.opened.1; nodes = a.nodes.items }
