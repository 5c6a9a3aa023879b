use Rattle.std.proofs.Common.{rules, ◌≡◌}
use Rattle.raft_core.specs.StoredParts.{stored_part}
use Rattle.raft_core.proofs.Stores.{stores_each}
use Rattle.raft_core.proofs.raft.Raft.stable.Goals as goal

pub returns-clause-stored : goal.returns-clause-stored
returns-clause-stored g c =
    let is : c.from_parts.result ≡ stored_part c.args.self.now = search rules in
    stores_each g.M.Machine.spec c.args.self.now c.covered_is_committed.ensures c.from_parts.result is
