use Rattle.std.proofs.Common.{rules}
use Rattle.std.proofs.lemmas.Fn.{always_returns_same}
use Rattle.pages.proofs.Positions.{position_found}
use Rattle.pages.proofs.search.position.Goals as goal

pub returns : goal.returns
returns g c = position_found g.T.Key.Ord.cmp g.T.Row.key_of g.met.T.Key.Ord.total c.args.key.now c.args.rows.now c.binary_search_by.result c.requires c.binary_search_by.ensures.bound
    (c.binary_search_by.ensures.position (λ y. g.T.Key.Ord.cmp (g.T.Row.key_of y) c.args.key.now) (always_returns_same _ _ _ (λ a r q k. (search rules, search rules))))
