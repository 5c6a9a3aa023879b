use Rattle.std.proofs.Common.{◌∙◌, refl, sym, true≢false}
use Rattle.sim_expand.proofs.plain.is_of.Goals as goal

pub returns-then-not-are_settings : goal.returns-then-not-are_settings
returns-then-not-are_settings c = ((λ is. absurd (true≢false (sym is))), (λ same. c.if-not-are_settings.ensures.1 same.0))

pub returns-then-not-are_nodes : goal.returns-then-not-are_nodes
returns-then-not-are_nodes c = ((λ is. absurd (true≢false (sym is))), (λ same. c.if-not-are_nodes.ensures.1 (c.deref.ensures.value ∙ same.1)))

pub returns : goal.returns
returns c =
    let lines = rw c.deref-2.ensures.value at c.are_lines.ensures in (
      (λ is. (c.if-not-are_settings.ensures.0 refl, sym c.deref.ensures.value ∙ c.if-not-are_nodes.ensures.0 refl, lines.0 is)),
      (λ same. lines.1 same.2),
    )
