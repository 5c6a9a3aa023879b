use Rattle.std.proofs.Common.{◌≡◌, List, eqb, length, map, take}
use Rattle.std.specs.List.{AllByRecursion, slice_split}
use Rattle.event_texts.proofs.list.read_items.Given as goal

abbrev pub invariant-loop-part : goal.invariant-loop-part
invariant-loop-part g l = record {
  can_next : (goal.iterator-loop-part g).can_next l.part-iterator;
  is_finite : (goal.iterator-loop-part g).is_finite l.part-iterator;
  texts : map g.T.Spelled.spelling l.items ≡ map (λ part. part.now) l.yielded;
  fit : AllByRecursion g.T.Spelled.Fits l.items;
  read : (xs : List g.row.T.Denot) → AllByRecursion g.T.Spelled.Fits xs → map g.T.Spelled.spelling xs ≡ slice_split (λ b. eqb b 44) l.text
      → l.items ≡ take (length l.yielded) xs;
}
