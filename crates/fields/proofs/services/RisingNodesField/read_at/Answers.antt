use Rattle.std.proofs.Common.{arith}
use Rattle.fields_model.proofs.ServiceLaws.{rising_nodes_lawful}
use Rattle.fields.proofs.services.RisingNodesField.read_at.Goals as goal

pub unreachable-requires : goal.unreachable-requires
unreachable-requires c =
    let s = rising_nodes_lawful.found c.args.bytes.now c.args.at c.in_ok-items.items c.in_ok-items.next (λ i. omega (arith, c.type_inv.bytes i)) c.in_ok-items.ensures in
    c.in-Err.ensures.err.1 s.fits.1
