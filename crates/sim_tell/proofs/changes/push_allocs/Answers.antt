use Rattle.std.proofs.Common.{List, string_bytes, subst, sym}
use Rattle.rows.specs.declared.allocation.Allocation.{Allocation}
use Rattle.sim_tell.specs.Words.{TellsNew}
use Rattle.sim_tell.specs.Changes.{IsOldAlloc, alloc_words}
use Rattle.sim_tell.proofs.changes.push_allocs.Goals as goal

pub loop-row-preserved : goal.loop-row-preserved
loop-row-preserved c = λ after told.
    c.loop-row.invariant after
    (subst (λ (rows : List Allocation). TellsNew (IsOldAlloc c.args.old.now) alloc_words rows (string_bytes c.loop-row.words) after)
    (sym c.in-Some.ensures.steps) (string_bytes c.push_new_alloc.new.words, c.in_ok-push_new_alloc.ensures, told))
