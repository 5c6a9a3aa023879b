use Rattle.std.proofs.Common.{◌≡◌, rules}
use Rattle.std.specs.Prelude.{IsUtf8}
use Rattle.std.proofs.lemmas.Result.{IfErr-weaker}
use Rattle.runner.proofs.Expansions.{no_text}
use Rattle.runner.proofs.expanding.expanded_bytes.Goals as goal

pub returns-in-Ok-clause-refused : goal.returns-in-Ok-clause-refused
returns-in-Ok-clause-refused c =
    let utf8 : IsUtf8 c.args.bytes.now = search rules in
    let same : c.in-Ok.text.now ≡ c.args.bytes.now = search rules in
    IfErr-weaker c.expanded_text.result _ _ (λ refusal why. no_text c.in-Ok.text.now c.args.bytes.now refusal same utf8 why) c.expanded_text.ensures.refused
