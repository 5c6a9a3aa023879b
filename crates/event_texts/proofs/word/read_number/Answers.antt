use Rattle.std.proofs.Common.{◌≡◌, Ok, rules}
use Rattle.std.proofs.lemmas.Fmt.{parse-decimal}
use Rattle.event_texts.specs.Inner.Plain.{IsPadded}
use Rattle.event_texts.proofs.Digits.{decimal_plain, plain_read}
use Rattle.event_texts.proofs.word.read_number.Goals as goal

pub returns-then-is_padded-clause-read : goal.returns-then-is_padded-clause-read
returns-then-is_padded-clause-read c n lt is =
    let padded : IsPadded c.args.text.now = search rules in
    absurd (decimal_plain n c.args.text.now lt is padded)

pub returns-clause-named : goal.returns-clause-named
returns-clause-named c =
    let plain : IsPadded c.args.text.now → ⊥ = search rules in
    let read = plain_read c.args.text.now c.parse.result c.parse.ensures.value.0 plain in
    search (rules, read)

pub returns-clause-read : goal.returns-clause-read
returns-clause-read c n lt is =
    let same : c.parse.result ≡ Ok n = parse-decimal 64 n _ _ lt lt is c.parse.ensures.value.0 in
    search rules
