use Rattle.runner.proofs.program.obey.Goals as goal

pub returns-in-Run-clause-told : goal.returns-in-Run-clause-told
returns-in-Run-clause-told g c = rw c.in-Run.is c.run_file.ensures.told

pub returns-in-Threads-clause-told : goal.returns-in-Threads-clause-told
returns-in-Threads-clause-told g c = rw c.in-Threads.is c.threads_file.ensures.told

pub returns-in-Sweep-clause-told : goal.returns-in-Sweep-clause-told
returns-in-Sweep-clause-told g c = rw c.in-Sweep.is c.sweep_file.ensures.told

pub returns-in-Expand-clause-told : goal.returns-in-Expand-clause-told
returns-in-Expand-clause-told g c = rw c.in-Expand.is c.expand_file.ensures.told
