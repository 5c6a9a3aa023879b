use Rattle.std.proofs.Common.{arith}
use Rattle.raft_snapshot.proofs.TextLaws.{front_keeps}
use Rattle.raft_snapshot.proofs.reading.read_front.Goals as goal

pub invariant_of-result : goal.invariant_of-result
invariant_of-result g c =
    front_keeps (g.M.Machine.spec.commands c.args.version) (g.met.M.Machine.lawful.commands_lawful c.args.version) c.args.bytes.now _ _ _ _ _ _ (λ i. omega (arith, c.type_inv.bytes i)) c.in_ok-index.ensures c.in_ok-entries.ensures
