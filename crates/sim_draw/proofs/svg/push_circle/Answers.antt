use Rattle.std.proofs.Common.{◌∙◌, ◌++◌, ap, codes, decimal, string_bytes}
use Rattle.sim_draw.proofs.svg.push_circle.Goals as goal

pub returns : goal.returns
returns c =
    c.in_ok-write.ensures.bytes
    ∙ ap (λ look. string_bytes c.args.svg.now ++ (codes "<circle cx=\"" ++ (decimal c.args.at.x ++ (codes "\" cy=\"" ++ (decimal c.args.at.y ++ (codes "\" " ++ (look ++ codes "/>\n")))))))
    c.attributes-look.ensures
