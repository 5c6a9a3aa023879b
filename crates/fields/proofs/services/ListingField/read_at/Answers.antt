use Rattle.std.proofs.Common.{arith}
use Rattle.fields_model.proofs.ServiceLaws.{listing_lawful}
use Rattle.fields.proofs.services.ListingField.read_at.Goals as goal

pub unreachable-requires : goal.unreachable-requires
unreachable-requires c =
    let s = listing_lawful.found c.args.bytes.now c.args.at c.in_ok-rows.rows c.in_ok-rows.next (λ i. omega (arith, c.type_inv.bytes i)) c.in_ok-rows.ensures in
    c.in-Err.ensures.err.1 (s.fits.0, s.fits.1)
