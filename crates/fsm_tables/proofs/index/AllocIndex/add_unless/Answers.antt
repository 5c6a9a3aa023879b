use Rattle.std.proofs.Common.{◌∙◌, List, subst, sym}
use Rattle.fsm_tables.specs.declared.index.Entry.{Entry}
use Rattle.fsm_tables.specs.Inner.Index.{Gains}
use Rattle.fsm_tables.proofs.Covers.{gained}
use Rattle.fsm_tables.proofs.index.AllocIndex.add_unless.Goals as goal

pub returns-in_ok-put-clause-ok : goal.returns-in_ok-put-clause-ok
returns-in_ok-put-clause-ok g c =
    let R = g.K.Ord.cmp in
    let new = c.put.new.self in
    let of_it = gained R g.met.K.Ord.total c.in-Some.entry c.self.inside.entries new c.args.more.now c.args.had.now c.in-Some.is (sym c.is_this.ensures ∙ c.if-not-is_this.true) c.in_ok-put.ensures.ok in
    subst (λ (old : List (Entry _)). Gains R c.args.more.now c.args.had.now old new) c.self.view_is of_it
