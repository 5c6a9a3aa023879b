use Rattle.raft_snapshot.proofs.Steps.{step-with_prefix}
use Rattle.raft_snapshot.proofs.Snapshots.{received-install, beat-with_prefix, compacted-with_prefix}
use Rattle.raft_snapshot.proofs.laws.steps_keep_prefixes.Goals as goal

pub returns-clause-steps : goal.returns-clause-steps
returns-clause-steps g c = step-with_prefix g.M.Machine.spec

pub returns-clause-installs : goal.returns-clause-installs
returns-clause-installs g c = λ P Q B n me s may from term each last. received-install P g.M.Machine.spec.noop n me s may from term Q B each last

pub returns-clause-beats : goal.returns-clause-beats
returns-clause-beats g c = beat-with_prefix

pub returns-clause-compacts : goal.returns-clause-compacts
returns-clause-compacts g c = λ P B s may within each. compacted-with_prefix P s may within B each
