use Rattle.std.proofs.Common.{◌-◌, arith, refl}
use Rattle.raft_snapshot.proofs.Blanks.{shown_cut}
use Rattle.raft_snapshot.proofs.Whole.{whole_cut}
use Rattle.raft_snapshot.proofs.log.Log.cut_from.Goals as goal

pub returns-clause-cut : goal.returns-clause-cut
returns-clause-cut g c =
    let i = c.self.inside in
    let m = g.M.Machine.spec in
    rw (← c.self.view_is, c.truncate.ensures.items, c.get.ensures.value, c.index.ensures.value) (shown_cut m i.base.index i.base.term i.tail.items c.args.index (rw (← c.self.view_is) at c.requires))

pub returns-clause-whole : goal.returns-clause-whole
returns-clause-whole g c = λ L is.
    let i = c.self.inside in
    let m = g.M.Machine.spec in
    whole_cut m i.base i.tail.items c.args.self.now c.self.view_is c.self.invariant.snapshot L is _ (rw (← c.self.view_is) refl) (c.args.index - 1) (omega (arith, c.requires)) (returns-clause-cut g c)
