use Rattle.std.proofs.Common.{◌≡◌, ◌<◌, ◌++◌, ℕ, List, Some, arith, length, length-append, refl, slice_get, ◌∙◌, ap}
use Rattle.std.proofs.Math.ListN.{get_or-append}
use Rattle.std.proofs.lemmas.Grind.{common_steps}
use Rattle.std.proofs.lemmas.List.Edits.{remove-append_right}
use Rattle.std.proofs.lemmas.Option.{get_or_from_slice_get, slice_get-get_or, slice_get_read, slice_get_within}
use Rattle.sim_play.proofs.waiting.Waiting.+take_at.Goals as goal
use Rattle.sim_play.specs.Inner.Waiting.{numbers}

-- one that stands on the left
on_left : (xs ys : List ℕ) (place number : ℕ) → slice_get xs place ≡ Some number → slice_get (xs ++ ys) place ≡ Some number
on_left xs ys place number here =
    let within = slice_get_within xs place number here in
    let in_all : place < length (xs ++ ys) = omega (arith, length-append xs ys) in
    slice_get-get_or (xs ++ ys) place 0 in_all
    ∙ ap Some (get_or-append xs ys 0 place within ∙ get_or_from_slice_get xs place number 0 here)

pub returns-then-place-count-clause-others : goal.returns-then-place-count-clause-others
returns-then-place-count-clause-others t c = grind (arith, common_steps, remove-append_right)

pub returns-in-Block-clause-taken : goal.returns-in-Block-clause-taken
returns-in-Block-clause-taken t c =
    let within = rw c.in-Block.is at c.requires.within in
    rw c.in-Block.is (slice_get_read c.in-Block.block.items (length c.in-Block.block.items) c.args.place c.remove.result refl within c.remove.ensures.value)

pub returns-else-count-eq0-clause-taken : goal.returns-else-count-eq0-clause-taken
returns-else-count-eq0-clause-taken t c =
    let taken = rw c.deref_mut-in-Fork.ensures.value at c.take_at-number.ensures.taken in
    rw c.in-Fork.is (on_left _ (numbers c.in-Fork.right.value) c.args.place c.take_at-number.result taken)
