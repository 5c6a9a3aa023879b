use Rattle.std.proofs.Common.{◌≡◌, map, string_bytes, subst, sym}
use Rattle.std.specs.Bool.{Decides}
use Rattle.sim_expand.proofs.Texts.{texts_decide}
use Rattle.sim_expand.proofs.plain.are_lines.Goals as goal

pub returns : goal.returns
returns c = subst (λ r. Decides r (map string_bytes c.args.own.now ≡ map string_bytes c.args.lines.now)) (sym c.eq.ensures) (texts_decide c.args.own.now c.args.lines.now)
