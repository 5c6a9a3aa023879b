use Rattle.std.proofs.Common.{◌∙◌, ◌++◌, ap, codes, decimal, string_bytes}
use Rattle.sim_draw.proofs.svg.push_tip.Goals as goal

pub returns : goal.returns
returns c =
    c.in_ok-write.ensures.bytes
    ∙ ap (λ told. string_bytes c.args.svg.now ++ (codes "<rect x=\"" ++ (decimal c.args.corner.x ++ (codes "\" y=\"" ++ (decimal c.args.corner.y ++ (codes "\" width=\"" ++ (decimal c.args.width ++ (codes "\" height=\"" ++ (decimal c.args.height ++ (codes "\" class=\"event\" pointer-events=\"all\"><title>" ++ (told ++ codes "</title></rect>\n")))))))))))
    c.in_ok-told.ensures
