use Rattle.std.proofs.Common.{arith}
use Rattle.journal.proofs.Scanning.{torn_by}
use Rattle.journal.proofs.records.may_be_torn.Goals as goal

pub returns : goal.returns
returns c =
    let head = c.in-Some.ensures in
    torn_by c.args.bytes.now c.args.at c.length_of.result c.in-Some.head.now (omega (arith, head.0)) head.1 c.length_of.ensures (omega (arith, c.length_of.type_inv))
