use Rattle.std.proofs.Common.{arith, length, refl, ◌∙◌}
use Rattle.raft_snapshot.proofs.Blanks.{shown_behind}
use Rattle.raft_snapshot.proofs.Whole.{whole_drop}
use Rattle.raft_snapshot.proofs.log.Log.behind.Goals as goal

pub returns-clause-value : goal.returns-clause-value
returns-clause-value g c =
    let i = c.self.inside in
    rw (← c.self.view_is, c.deref.ensures.value) (shown_behind g.M.Machine.spec i.base.index i.base.term i.tail.items c.args.index c.min-start.result (length i.tail.items) (rw (← c.self.view_is) at c.requires) (omega (arith, c.min-start.ensures, c.index.ensures.value, c.get.ensures.value, c.len.ensures, i.tail.ok.0)) refl)

pub returns-clause-whole : goal.returns-clause-whole
returns-clause-whole g c = λ L is.
    let i = c.self.inside in
    returns-clause-value g c ∙ whole_drop g.M.Machine.spec i.base i.tail.items c.args.self.now c.self.view_is c.self.invariant.snapshot L is c.args.index c.requires
