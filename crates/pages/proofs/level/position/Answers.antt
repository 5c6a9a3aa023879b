use Rattle.std.proofs.Common.{rules}
use Rattle.std.proofs.lemmas.Fn.{always_returns_same}
use Rattle.pages.specs.Inner.Slots.{slot_first}
use Rattle.pages.proofs.Positions.{firsts_found}
use Rattle.pages.proofs.level.position.Goals as goal

pub returns : goal.returns
returns g c = firsts_found g.T.Key.Ord.cmp slot_first g.met.T.Key.Ord.total c.args.key.now c.args.slots.now c.binary_search_by.result c.requires.firsts c.binary_search_by.ensures.bound
    (c.binary_search_by.ensures.position (λ s. g.T.Key.Ord.cmp s.first c.args.key.now) (always_returns_same _ _ _ (λ a r q k. (search rules, search rules))))
