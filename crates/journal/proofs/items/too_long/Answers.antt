use Rattle.std.proofs.Common.{arith}
use Rattle.journal.proofs.Fronts.{no_length, is_long, not_long}
use Rattle.journal.proofs.items.too_long.Goals as goal

pub returns-in_default : goal.returns-in_default
returns-in_default c = no_length c.args.bytes.now c.args.at c.requires c.in_default.ensures

pub returns-then-size-gt-MOST_BYTES : goal.returns-then-size-gt-MOST_BYTES
returns-then-size-gt-MOST_BYTES c =
    let head = c.in-Some.ensures in
    is_long c.args.bytes.now c.args.at c.length_of-size.result c.in-Some.head.now head.0 head.1 c.length_of-size.ensures
    (omega (arith, c.if-size-gt-MOST_BYTES.true)) (omega (arith, c.length_of-size.type_inv))

pub returns : goal.returns
returns c =
    let head = c.in-Some.ensures in
    not_long c.args.bytes.now c.args.at c.length_of-size.result c.in-Some.head.now head.0 head.1 c.length_of-size.ensures
    (omega (arith, c.if-size-gt-MOST_BYTES.false))
