use Rattle.std.proofs.Common.{◌≡◌, ◌≤◌, length, take}
use Rattle.machine_model.specs.After.{after_from}
use Rattle.raft_model.specs.Logs.{commands}
use Rattle.raft_snapshot.specs.Watching.{SeesAll}
use Rattle.raft_snapshot.proofs.apply.apply_all_watched.Given as goal

abbrev pub invariant-loop-entry : goal.invariant-loop-entry
invariant-loop-entry g l = record {
  within : l.entry-index ≤ length l.entries;
  state : l.machine ≡ after_from g.M.Machine.spec l.initial.machine (commands (take l.entry-index l.entries));
  seen : SeesAll g.M.Machine.spec g.W.Watch.sees l.term l.initial.machine (take l.entry-index l.entries) l.initial.watch l.watch;
}
