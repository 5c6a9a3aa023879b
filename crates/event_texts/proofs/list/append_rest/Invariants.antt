use Rattle.std.proofs.Common.{◌≡◌, ◌++◌, drop, map}
use Rattle.std.specs.List.{AllByRecursion}
use Rattle.event_texts.specs.Inner.Written.{behind_commas}
use Rattle.event_texts.proofs.list.append_rest.Given as goal

-- what is written, and what is left, are all
abbrev pub invariant-loop-item : goal.invariant-loop-item
invariant-loop-item g l =
    let left = drop l.item-index l.items in
    let spelling = g.T.Spelled.spelling in
    record {
      fit : AllByRecursion g.T.Spelled.Fits left → AllByRecursion g.T.Spelled.Fits l.items;
      text : l.out.items ++ behind_commas (map spelling left) ≡ l.fn.out.items ++ behind_commas (map spelling l.items);
    }
