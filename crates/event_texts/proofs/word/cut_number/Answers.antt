use Rattle.std.proofs.Common.{arith, decimal, rules}
use Rattle.event_texts.specs.Laws.PlainTexts.{decimal_lacks}
use Rattle.event_texts.proofs.word.cut_number.Goals as goal

pub returns-in_err-number-clause-read : goal.returns-in_err-number-clause-read
returns-in_err-number-clause-read c n rest lt is =
    absurd (c.in_err-number.ensures.first (decimal n) rest (decimal_lacks c.args.separator n (λ h. omega (arith, c.requires)) lt) is)

pub returns-in_err-read_number-clause-read : goal.returns-in_err-read_number-clause-read
returns-in_err-read_number-clause-read c n rest lt is =
    let first = c.in_ok-number.ensures.first (decimal n) rest (decimal_lacks c.args.separator n (λ h. omega (arith, c.requires)) lt) is in
    let read = c.read_number.ensures.read n lt first.0 in
    search rules

pub returns-clause-read : goal.returns-clause-read
returns-clause-read c n rest lt is =
    let first = c.in_ok-number.ensures.first (decimal n) rest (decimal_lacks c.args.separator n (λ h. omega (arith, c.requires)) lt) is in
    let read = c.read_number.ensures.read n lt first.0 in
    search rules
