use Rattle.std.proofs.Common.{◌≡◌, subst, sym}
use Rattle.raft_core.specs.StoredParts.{KeepsLog, stored_part}
use Rattle.raft_snapshot.specs.Compacted.{IsCompacted}
use Rattle.raft_records.specs.Records.{IsDelta}
use Rattle.server_node.proofs.handing.add_change.Goals as goal

pub returns-clause-compacted : goal.returns-clause-compacted
returns-clause-compacted c = subst (λ v. IsCompacted v.base v.server) c.raft-log.ensures c.covered_is_committed.ensures

pub returns-clause-change : goal.returns-clause-change
returns-clause-change c = λ old remembers keeps first led.
    let log = c.args.server.now.raft in
    let delta = c.delta_of-delta.result in
    let here = c.delta_of-delta.ensures old remembers (λ is. subst (λ v. v.base.index ≡ old.base.index → KeepsLog old v) (sym c.raft-log.ensures) (keeps is)) in
    c.joined.ensures first (stored_part old) (stored_part log) led (subst (λ v. IsDelta delta (stored_part old) (stored_part v)) c.raft-log.ensures here)
