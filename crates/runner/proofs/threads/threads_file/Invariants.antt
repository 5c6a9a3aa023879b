-- The book's actors and nodes are those that the group is opened with.
use Rattle.runner.proofs.threads.threads_file.Given as goal

abbrev pub ghosts-run_threads : goal.ghosts-run_threads
ghosts-run_threads g a = record { table = a.opened.0; actors = a.opened.1; nodes = a.scenario.now.nodes.items }
