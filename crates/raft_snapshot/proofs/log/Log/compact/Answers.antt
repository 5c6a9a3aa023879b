use Rattle.std.proofs.Common.{◌≡◌, ◌+◌, ◌-◌, ap, ◌∙◌}
use Rattle.raft_model.specs.Logs.{term_at}
use Rattle.raft_snapshot.proofs.Logs.{term_at_zero}
use Rattle.raft_snapshot.proofs.Whole.{whole_later, to_index}
use Rattle.raft_snapshot.proofs.log.Log.compact.Goals as goal

pub of-requires : goal.of-requires
of-requires g c = record {
  count = c.requires.counted;
  none = λ z. c.in-Some.ensures.value.1 ∙ ap (term_at c.args.self.now.entries) (c.get.ensures.value ∙ z) ∙ term_at_zero c.args.self.now.entries;
  first = c.requires.first;
}

pub returns-clause-whole : goal.returns-clause-whole
returns-clause-whole g c = λ L is leads.
    let m = g.M.Machine.spec in
    let i = c.self.inside in
    let log = c.args.self.now in
    let term = rw c.get.ensures.value at c.in-Some.ensures.value.1 in
    let at : log.base.index + (c.get-2.result - c.get-3.result) ≡ c.args.index = to_index m i.base i.tail.items log c.self.view_is c.args.index c.get-2.result c.get-3.result (c.get-3.ensures.value ∙ c.index.ensures.value) c.get-2.ensures.value c.requires.covered in
    let new = rw (c.of.ensures.value, term, at) at c.rebase.ensures in
    whole_later m i.base i.tail.items log c.self.view_is c.self.invariant.snapshot L is c.rebase.new.self c.args.index c.args.state c.requires.covered c.requires.within new leads
