use Rattle.std.proofs.Common.{◌≡◌, ◌∙◌, ◌+◌, ◌∷◌, [], rules}
use Rattle.event_texts.proofs.Digits.{named_digit, server_digit}
use Rattle.event_texts.proofs.word.read_digit.Goals as goal

pub returns-in_err-checked_sub-clause-read : goal.returns-in_err-checked_sub-clause-read
returns-in_err-checked_sub-clause-read c server lt is =
    let text : c.args.digit ∷ [] ≡ (48 + (server + 1)) ∷ [] = is ∙ server_digit server lt in
    let digit : c.args.digit ≡ 48 + (server + 1) = cc in
    search rules

pub returns-clause-named : goal.returns-clause-named
returns-clause-named c =
    let digit : c.args.digit ≡ 48 + c.in_ok-checked_sub.field-0 = search rules in
    named_digit c.from_number.result c.args.digit c.in_ok-checked_sub.field-0 digit c.from_number.ensures.some

pub returns-clause-read : goal.returns-clause-read
returns-clause-read c server lt is =
    let text : c.args.digit ∷ [] ≡ (48 + (server + 1)) ∷ [] = is ∙ server_digit server lt in
    let digit : c.args.digit ≡ 48 + (server + 1) = cc in
    search rules
