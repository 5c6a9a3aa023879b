use Rattle.test_servers.proofs.tests.waiting.a_crash_drops_what_waits.Given as goal

abbrev pub ghosts-crash_a_server : goal.ghosts-crash_a_server
ghosts-crash_a_server g a = record { table = a.opened.0; actors = a.opened.1; nodes = a.nodes.items }
