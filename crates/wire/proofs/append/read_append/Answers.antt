use Rattle.std.proofs.Common.{◌≤◌, length, arith}
use Rattle.rows.specs.Versions.{newest}
use Rattle.wire.proofs.GrammarLaws.{entries_lawful, most_entries_is_few}
use Rattle.wire.proofs.append.read_append.Goals as goal

pub invariant_of-result : goal.invariant_of-result
invariant_of-result g c =
    let most = c.most_entries.result in
    let few = rw (← c.most_entries.ensures) at (most_entries_is_few c.in_ok-head.head.prev_index) in
    let law = entries_lawful (g.M.Machine.spec.commands newest) most few (g.met.M.Machine.lawful.commands_lawful newest) in
    let stands = law.found c.args.bytes.now c.in_ok-head.at c.in_ok-entries.entries c.in_ok-entries.end (λ i. omega (arith, c.type_inv.bytes i)) c.in_ok-entries.ensures in
    let many : length c.in_ok-entries.entries ≤ most = stands.fits.0 in
    (omega arith, omega (arith, c.most_entries.ensures))
