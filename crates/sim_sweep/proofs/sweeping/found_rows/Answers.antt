use Rattle.std.proofs.Common.{◌≡◌, ◌++◌, ◌+◌, ◌∙◌, All, ap, arith, drop, length, subst, sym, take, take_at}
use Rattle.sim_sweep.specs.Inner.Found.{ArePlaced, StayFound}
use Rattle.sim_sweep.proofs.Places.{all_placed_more}
use Rattle.sim_sweep.proofs.sweeping.found_rows.Goals as goal

pub put_rows-requires-clause-found : goal.put_rows-requires-clause-found
put_rows-requires-clause-found c = λ position row at. c.loop-rows.invariant.found position row (rw c.deref_mut.ensures.value at at)

pub loop-rows-preserved : goal.loop-rows-preserved
loop-rows-preserved c =
    let was = c.loop-rows.found.items in
    let found = c.put_rows.new.found in
    let rest = drop (length found) was in
    let size : length found ≡ length was = omega arith in
    let whole : take c.loop-rows.found.len (found ++ rest) ≡ found = take_at found rest c.loop-rows.found.len (omega arith) in
    let kept : StayFound was found = rw c.deref_mut.ensures.value at c.put_rows.ensures.kept in
    record {
      found = λ position row at. c.put_rows.ensures.found position row (rw whole at at);
      size = ap length whole ∙ size ∙ c.loop-rows.invariant.size;
      put = subst (λ now. All (λ rows. ArePlaced rows.items now) (take (c.loop-rows.rows-index + 1) c.args.brought.now)) (sym whole) (all_placed_more (λ rows. rows.items) c.args.brought.now c.loop-rows.rows-index c.rows-item.result was found c.loop-rows-test.true c.rows-item.is (sym size) kept (rw c.deref.ensures.value at c.put_rows.ensures.put) c.loop-rows.invariant.put);
    }
