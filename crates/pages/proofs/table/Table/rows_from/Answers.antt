use Rattle.std.proofs.Common.{ℕ, ap, drop, ◌∙◌}
use Rattle.pages.proofs.Below.{from_position}
use Rattle.pages.proofs.table.Table.rows_from.Goals as goal

pub returns : goal.returns
returns g c = ap (λ (n : ℕ). drop n c.args.self.now) c.count_below.ensures ∙ from_position g.T.Key.Ord.cmp g.T.Row.key_of g.met.T.Key.Ord.total c.args.key.now c.args.self.now c.ranges-2.ensures.rising
