use Rattle.std.proofs.Common.{rules, sym, Ok, Err}
use Rattle.std.proofs.lemmas.Fn.{always_returns_same}
use Rattle.pages.proofs.Positions.{firsts_found}
use Rattle.pages.proofs.Below.{count_found, count_missed}
use Rattle.pages.proofs.page.count_below.Goals as goal

pub returns-in-Ok : goal.returns-in-Ok
returns-in-Ok g c = sym (count_found g.T.Key.Ord.cmp g.T.Row.key_of g.met.T.Key.Ord.total c.args.key.now c.args.rows.now c.in-Ok.at c.requires
    (firsts_found g.T.Key.Ord.cmp g.T.Row.key_of g.met.T.Key.Ord.total c.args.key.now c.args.rows.now (Ok c.in-Ok.at) c.requires c.in-Ok.ensures.bound
    (c.in-Ok.ensures.position (λ y. g.T.Key.Ord.cmp (g.T.Row.key_of y) c.args.key.now) (always_returns_same _ _ _ (λ a r q k. (search rules, search rules))))))

pub returns-in-Err : goal.returns-in-Err
returns-in-Err g c = sym (count_missed g.T.Key.Ord.cmp g.T.Row.key_of g.met.T.Key.Ord.total c.args.key.now c.args.rows.now c.in-Err.at
    (firsts_found g.T.Key.Ord.cmp g.T.Row.key_of g.met.T.Key.Ord.total c.args.key.now c.args.rows.now (Err c.in-Err.at) c.requires c.in-Err.ensures.bound
    (c.in-Err.ensures.position (λ y. g.T.Key.Ord.cmp (g.T.Row.key_of y) c.args.key.now) (always_returns_same _ _ _ (λ a r q k. (search rules, search rules))))))
