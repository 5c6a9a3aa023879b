use Rattle.std.proofs.Common.{◌∙◌, List, subst, sym}
use Rattle.fsm_tables.specs.declared.index.Entry.{Entry}
use Rattle.fsm_tables.specs.Inner.Index.{Loses}
use Rattle.fsm_tables.proofs.Covers.{lost}
use Rattle.fsm_tables.proofs.index.AllocIndex.remove_unless.Goals as goal

pub returns-in_ok-cut-clause-ok : goal.returns-in_ok-cut-clause-ok
returns-in_ok-cut-clause-ok g c =
    let R = g.K.Ord.cmp in
    let new = c.cut.new.self in
    let of_it = lost R g.met.K.Ord.total c.in-Some.entry c.self.inside.entries new c.args.gone.now c.args.kept.now c.in-Some.is (sym c.is_this.ensures ∙ c.if-not-is_this.true) c.in_ok-cut.ensures.ok in
    subst (λ (old : List (Entry _)). Loses R c.args.gone.now c.args.kept.now old new) c.self.view_is of_it
