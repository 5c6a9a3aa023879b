use Rattle.std.proofs.Common.{◌≡◌, ◌≤◌, List, length, subst, sym, rules, arith}
use Rattle.std.proofs.lemmas.Grind.{common_steps}
use Rattle.pages.specs.Rows.{put_within}
use Rattle.pages.proofs.RowLaws.{few_put_within}
use Rattle.pages.proofs.table.Table.put_within.Goals as goal

pub returns-in_ok-put-clause-few : goal.returns-in_ok-put-clause-few
returns-in_ok-put-clause-few g c = λ le.
    let R = g.T.Key.Ord.cmp in
    let key = g.T.Row.key_of in
    let e : c.put.new.self ≡ put_within R key c.args.most c.args.row c.args.self.now = first_of (search rules, grind (arith, common_steps)) in
    let old = c.args.self.now in
    subst (λ (rows : List _). length rows ≤ c.args.most) (sym e) (few_put_within R key g.met.T.Key.Ord.total c.args.most c.args.row old c.ranges-2.ensures.rising le)
