use Rattle.std.proofs.Common.{◌≡◌, ◌∙◌, ◌+◌, ◌++◌, ◌∷◌, [], ap, codes, rules}
use Rattle.event_texts.proofs.Digits.{server_digit}
use Rattle.event_texts.proofs.event.read_beat.Goals as goal

pub returns-in_default-clause-read : goal.returns-in_default-clause-read
returns-in_default-clause-read c server is =
    let line : c.args.line.now ≡ 98 ∷ 101 ∷ 97 ∷ 116 ∷ 32 ∷ (48 + (server + 1)) ∷ [] = is.1 ∙ ap (λ digit. codes "beat " ++ digit) (server_digit server is.0.0) in
    search rules
