use Rattle.std.proofs.Common.{◌≡◌, ◌∙◌, ◌++◌, ◌∷◌, ap, append_assoc, map, rules}
use Rattle.std.proofs.lemmas.Result.{on_ok_weaker}
use Rattle.event_texts.specs.Inner.Written.{behind_commas}
use Rattle.event_texts.proofs.Written.{joined}
use Rattle.event_texts.proofs.list.append_items.Goals as goal

pub returns : goal.returns
returns g c =
    let first = g.T.Spelled.spelling c.in-Some.first.now in
    let rest = map g.T.Spelled.spelling c.in-Some.rest.now in
    let items : c.args.items.now ≡ c.in-Some.first.now ∷ c.in-Some.rest.now = search rules in
    let text = joined first rest in
    let begun = c.in_ok-append.ensures in
    rw (items, text)
    (on_ok_weaker c.append_rest.result (λ h. ((begun.0, h.0), h.1 ∙ ap (λ front. front ++ behind_commas rest) begun.1 ∙ append_assoc c.args.out.now.items first _))
    c.append_rest.ensures)
