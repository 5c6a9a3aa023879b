use Rattle.std.proofs.Common.{sym, subst}
use Rattle.sim_draw.specs.Pictures.{IsPicture}
use Rattle.sim_draw.proofs.Contents.{is_picture}
use Rattle.sim_draw.proofs.drawing.whole.Goals as goal

pub returns : goal.returns
returns c =
    let title = c.args.title.now in
    subst (IsPicture title) (sym c.in_ok-svg.ensures)
    (is_picture c.args.size.0 c.args.size.1 title c.args.shapes.now)
