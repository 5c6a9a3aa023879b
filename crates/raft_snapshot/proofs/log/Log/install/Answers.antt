use Rattle.std.proofs.Common.{sym, ◌∙◌}
use Rattle.raft_snapshot.proofs.Whole.{whole_installed, to_index, none_left, installed_kept, installed_cut}
use Rattle.raft_snapshot.proofs.log.Log.install.Goals as goal

pub returns-then-holds-clause-shows : goal.returns-then-holds-clause-shows
returns-then-holds-clause-shows g c =
    let m = g.M.Machine.spec in
    let i = c.self.inside in
    let at = to_index m i.base i.tail.items c.args.self.now c.self.view_is c.args.snapshot.index c.get-index.result c.get.result (c.get.ensures.value ∙ c.index-then-holds.ensures.value) (c.get-index.ensures.value ∙ c.index.ensures.value) c.requires in
    let there = rw (c.get-index.ensures.value, c.index.ensures.value, c.term.ensures) at c.if-holds.ensures.value in
    installed_kept m c.args.self.now c.rebase.new.self c.args.snapshot _ c.rebase.ensures c.index.ensures.keeps.none at (sym there)

pub returns-then-holds-clause-whole : goal.returns-then-holds-clause-whole
returns-then-holds-clause-whole g c = λ L is P fits.
    let i = c.self.inside in
    whole_installed g.M.Machine.spec i.base i.tail.items c.args.self.now c.self.view_is c.self.invariant.snapshot L is c.rebase.new.self c.args.snapshot c.requires c.index.ensures.keeps.none _ c.rebase.ensures (returns-then-holds-clause-shows g c) P fits

pub returns-clause-shows : goal.returns-clause-shows
returns-clause-shows g c =
    let m = g.M.Machine.spec in
    let i = c.self.inside in
    let left = none_left m i.base i.tail.items c.args.self.now c.self.view_is c.len-gone.result (c.len-gone.ensures ∙ i.tail.ok.0) in
    let gone = rw (c.get-index.ensures.value, c.index.ensures.value, c.term.ensures) at c.if-holds.ensures.value in
    installed_cut m c.args.self.now c.rebase-2.new.self c.args.snapshot _ c.rebase-2.ensures c.index.ensures.keeps.none left (sym gone)

pub returns-clause-whole : goal.returns-clause-whole
returns-clause-whole g c = λ L is P fits.
    let i = c.self.inside in
    whole_installed g.M.Machine.spec i.base i.tail.items c.args.self.now c.self.view_is c.self.invariant.snapshot L is c.rebase-2.new.self c.args.snapshot c.requires c.index.ensures.keeps.none _ c.rebase-2.ensures (returns-clause-shows g c) P fits
