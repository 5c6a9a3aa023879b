use Rattle.std.proofs.Common.{refl}
use Rattle.raft_snapshot.proofs.Applies.{on_ok}
use Rattle.raft_snapshot.proofs.Blanks.{shown_replaced}
use Rattle.raft_snapshot.proofs.Whole.{whole_replaced}
use Rattle.raft_snapshot.proofs.log.Log.replace_behind.Goals as goal

pub returns-clause-ok : goal.returns-clause-ok
returns-clause-ok g c =
    let i = c.self.inside in
    let is = rw (c.get.ensures.value, c.index.ensures.value) at c.replace_tail.ensures.ok in
    let low = rw (← c.self.view_is) at c.requires.covered in
    rw (← c.self.view_is) (on_ok c.replace_tail.result (shown_replaced g.M.Machine.spec i.base.index i.base.term i.tail.items c.args.more.items c.replace_tail.new.all.items c.args.index low) is)

pub returns-clause-whole : goal.returns-clause-whole
returns-clause-whole g c =
    let i = c.self.inside in
    on_ok c.replace_tail.result (λ ok L is. whole_replaced g.M.Machine.spec i.base i.tail.items c.args.self.now c.self.view_is c.self.invariant.snapshot L is _ (rw (← c.self.view_is) refl) c.args.index c.args.more.items c.requires.covered c.requires.within ok) (returns-clause-ok g c)
