use Rattle.std.proofs.Common.{◌≡◌, ◌∙◌, ◌++◌, ◌∷◌, [], add-one, ap, arith, eqb, length, lit<, map, refl, rules, sym, take}
use Rattle.std.proofs.lemmas.List.{length-map, length_push, take_all}
use Rattle.std.specs.List.{slice_split}
use Rattle.std.proofs.lemmas.Iterator.Consumers.{YieldsList-end, YieldsList-turn}
use Rattle.std.proofs.lemmas.Iterator.Splits.{YieldsList-from_str_split}
use Rattle.event_texts.proofs.CommaLists.{at_part, more_fit, more_texts, parts_of}
use Rattle.event_texts.proofs.list.read_items.Goals as goal

pub returns-in_default-clause-read : goal.returns-in_default-clause-read
returns-in_default-clause-read g c xs fits some is =
    let Fits = g.T.Spelled.Fits in
    let spelling = g.T.Spelled.spelling in
    let chain = YieldsList-from_str_split {s = c.split-part-items.result} 44 c.args.text.now (lit< tt) c.split-part-items.ensures.text c.split-part-items.ensures.has_more c.split-part-items.ensures.pattern in
    let parts = rw (← c.into_iter-part-iterator.ensures.into_iter_gives) at chain in
    let turn = YieldsList-turn parts c.loop-part.yielded _ c.loop-part.yielded_by _ _ c.in-Some.part c.in-Some.is c.next.ensures.steps in
    let texts : slice_split (λ b. eqb b 44) c.args.text.now ≡ map spelling xs = rw is (parts_of Fits spelling g.T.Spelled.plain xs fits some) in
    let here = rw texts at turn in
    let found = at_part Fits spelling xs (length c.loop-part.yielded) c.in-Some.part.now fits here.0 here.1 in
    let read = c.read_text.ensures.read found.0 found.1 found.2 in
    search rules

pub loop-part-preserved : goal.loop-part-preserved
loop-part-preserved g c =
    let Fits = g.T.Spelled.Fits in
    let spelling = g.T.Spelled.spelling in
    let chain = YieldsList-from_str_split {s = c.split-part-items.result} 44 c.args.text.now (lit< tt) c.split-part-items.ensures.text c.split-part-items.ensures.has_more c.split-part-items.ensures.pattern in
    let parts = rw (← c.into_iter-part-iterator.ensures.into_iter_gives) at chain in
    let turn = YieldsList-turn parts c.loop-part.yielded _ c.loop-part.yielded_by _ _ c.in-Some.part c.in-Some.is c.next.ensures.steps in
    let item = c.in-Some-read_text.item in
    let pushed : c.push.new.self ≡ c.loop-part.items ++ item ∷ [] = search rules in
    let named : Fits item × (c.in-Some.part.now ≡ spelling item) = search rules in
    let counted = length_push c.loop-part.yielded c.in-Some.part in
    record {
      can_next = c.loop-part.invariant.can_next;
      is_finite = c.loop-part.invariant.is_finite;
      texts = rw pushed (more_texts spelling _ _ _ _ c.loop-part.invariant.texts named.1);
      fit = rw pushed (more_fit Fits _ _ c.loop-part.invariant.fit named.0);
      read = λ xs fits is.
          let here = rw (← is) at turn in
          let found = at_part Fits spelling xs (length c.loop-part.yielded) c.in-Some.part.now fits here.0 here.1 in
          let read = c.read_text.ensures.read found.0 found.1 found.2 in
          let same : item ≡ found.0 = search rules in
          let before = c.loop-part.invariant.read xs fits is in
          let after = found.3 in
          rw (pushed, before, same, counted, add-one, after) refl;
    }

pub returns-clause-read : goal.returns-clause-read
returns-clause-read g c xs fits some is =
    let Fits = g.T.Spelled.Fits in
    let spelling = g.T.Spelled.spelling in
    let chain = YieldsList-from_str_split {s = c.split-part-items.result} 44 c.args.text.now (lit< tt) c.split-part-items.ensures.text c.split-part-items.ensures.has_more c.split-part-items.ensures.pattern in
    let parts = rw (← c.into_iter-part-iterator.ensures.into_iter_gives) at chain in
    let end = YieldsList-end parts c.loop-part.yielded _ c.loop-part.yielded_by _ _ c.in-None.is c.next.ensures.steps in
    let texts : slice_split (λ b. eqb b 44) c.args.text.now ≡ map spelling xs = rw is (parts_of Fits spelling g.T.Spelled.plain xs fits some) in
    let count : length c.loop-part.yielded ≡ length xs = end.1 ∙ ap length texts ∙ length-map xs spelling in
    let read : c.loop-part.items ≡ take (length c.loop-part.yielded) xs = c.loop-part.invariant.read xs fits (sym texts) in
    let same : c.loop-part.items ≡ xs = read ∙ take_all _ xs (omega arith) in
    rw (← same) (search rules)
