use Rattle.test_servers.proofs.tests.running.a_group_with_full_queues_is_sound.Given as goal

abbrev pub ghosts-crowded : goal.ghosts-crowded
ghosts-crowded g a = record { table = a.opened.0; actors = a.opened.1; nodes = a.nodes.items }
