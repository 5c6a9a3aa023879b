use Rattle.std.proofs.Common.{◌≡◌, ◌∙◌, ap, sym, rules, get_or, map, arith, below_more}
use Rattle.std.proofs.lemmas.Grind.{common_steps}
use Rattle.std.proofs.lemmas.List.{get_or-map}
use Rattle.lossy_net.proofs.net.mailbox_of.Goals as goal

pub loop-mailbox-preserved : goal.loop-mailbox-preserved
loop-mailbox-preserved g c =
    let xs = c.args.mailboxes.now in
    let i = c.loop-mailbox.mailbox-index in
    let item = c.mailbox-item.result in
    let actor = c.args.actor in
    let there : get_or (map (λ m. m.actor) xs) i actor ≡ item.actor =
    get_or-map (λ m. m.actor) xs i item actor (search rules)
    ∙ ap (λ m. m.actor) (sym c.mailbox-item.is) in
    below_more _ _ c.loop-mailbox.invariant (λ e.
    let same : item.actor ≡ actor = sym there ∙ e in
    grind (arith, common_steps, same))
