use Rattle.std.proofs.Common.{◌∙◌, ◌++◌, ap}
use Rattle.sim_draw.specs.Inner.Shapes.{title_text, about_text, sheet_text}
use Rattle.sim_draw.proofs.svg.head.Goals as goal

pub returns : goal.returns
returns c =
    let title = c.args.title.now in
    c.in_ok-push_sheet.ensures
    ∙ ap (λ text. text ++ sheet_text c.args.size.0 c.args.size.1) (c.in_ok-push_about.ensures
    ∙ ap (λ text. text ++ about_text) (c.in_ok-push_title.ensures
    ∙ ap (λ text. text ++ title_text title) c.in_ok-svg.ensures))
