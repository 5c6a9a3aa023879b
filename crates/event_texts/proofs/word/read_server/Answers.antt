use Rattle.std.proofs.Common.{◌≡◌, ◌∙◌, ◌+◌, ◌∷◌, [], rules}
use Rattle.event_texts.proofs.Digits.{server_digit}
use Rattle.event_texts.proofs.word.read_server.Goals as goal

pub returns-in_default-clause-read : goal.returns-in_default-clause-read
returns-in_default-clause-read c server lt is =
    let text : c.args.text.now ≡ (48 + (server + 1)) ∷ [] = is ∙ server_digit server lt in
    search rules
