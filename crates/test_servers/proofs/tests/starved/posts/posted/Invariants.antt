use Rattle.test_servers.proofs.tests.starved.posts.posted.Given as goal

abbrev pub ghosts-posts : goal.ghosts-posts
ghosts-posts g a = record { table = a.opened.0; actors = a.opened.1; nodes = a.nodes.items }
