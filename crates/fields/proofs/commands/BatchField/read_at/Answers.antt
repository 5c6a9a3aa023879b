use Rattle.std.proofs.Common.{◌<◌, ◌≤◌, length, arith}
use Rattle.fields_model.proofs.BatchLaws.{batch_lawful}
use Rattle.fields.proofs.commands.BatchField.read_at.Goals as goal

pub unreachable-requires : goal.unreachable-requires
unreachable-requires g c =
    let s = (batch_lawful (g.F.Field.format c.args.version) (g.met.F.Field.lawful c.args.version)).found c.args.bytes.now c.args.at c.in_ok-items.items c.in_ok-items.next (λ i. omega (arith, c.type_inv.bytes i)) c.in_ok-items.ensures in
    let few : length c.in_ok-items.items ≤ 64 = s.fits.0 in
    let many : 64 < length c.in_ok-items.items = c.in-Err.ensures.err.1 in
    absurd (omega arith)
