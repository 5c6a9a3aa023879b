use Rattle.raft_snapshot.proofs.Shown.{received, two_servers, beat_shows}
use Rattle.raft_snapshot.proofs.laws.snapshots_are_received.Goals as goal

pub returns-clause-received : goal.returns-clause-received
returns-clause-received g c = λ n me from term snapshot base shown s is r Q fits. received g.M.Machine.spec n me from term snapshot base shown s is r Q fits

pub returns-clause-sent : goal.returns-clause-sent
returns-clause-sent g c = two_servers g.M.Machine.spec

pub returns-clause-appends : goal.returns-clause-appends
returns-clause-appends g c = beat_shows g.M.Machine.spec
