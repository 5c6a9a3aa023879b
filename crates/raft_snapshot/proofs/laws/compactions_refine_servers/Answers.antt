use Rattle.raft_snapshot.proofs.Shown.{state_shown, whole_shown, compact_stands}
use Rattle.raft_snapshot.proofs.laws.compactions_refine_servers.Goals as goal

pub returns-clause-state : goal.returns-clause-state
returns-clause-state g c = state_shown g.M.Machine.spec

pub returns-clause-whole : goal.returns-clause-whole
returns-clause-whole g c = whole_shown g.M.Machine.spec

pub returns-clause-compact : goal.returns-clause-compact
returns-clause-compact g c = compact_stands g.M.Machine.spec
