use Rattle.std.proofs.Common.{◌≡◌, ◌∙◌, [], codes, rules, sym}
use Rattle.event_texts.proofs.CommaLists.{dash_is_none}
use Rattle.event_texts.proofs.list.read_batch.Goals as goal

pub returns-then-eq-clause-read : goal.returns-then-eq-clause-read
returns-then-eq-clause-read g c xs fits dashes is =
    let dash : c.args.text.now ≡ codes "-" = search rules in
    let none : xs ≡ [] = dash_is_none g.T.Spelled.spelling xs dashes (sym dash ∙ is) in
    rw none (search rules)
