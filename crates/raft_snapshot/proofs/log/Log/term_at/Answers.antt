use Rattle.std.proofs.Common.{inl, inr, arith, sym, ap, ◌∙◌, ◌≤◌, ◌<◌, ◌≡◌}
use Rattle.raft_model.specs.Logs.{term_at}
use Rattle.raft_snapshot.proofs.Logs.{term_at_zero}
use Rattle.raft_snapshot.proofs.Blanks.{shown_covered, shown_there, shown_past}
use Rattle.raft_snapshot.proofs.Whole.{whole_term}
use Rattle.raft_snapshot.proofs.log.Log.term_at.Goals as goal

pub returns-then-index-eq0-clause-value : goal.returns-then-index-eq0-clause-value
returns-then-index-eq0-clause-value g c =
    (inl c.if-index-eq0.true, sym (ap (term_at c.args.self.now.entries) c.if-index-eq0.true ∙ term_at_zero c.args.self.now.entries))

pub returns-then-index-eq0-clause-whole : goal.returns-then-index-eq0-clause-whole
returns-then-index-eq0-clause-whole g c = λ L is. sym (ap (term_at L) c.if-index-eq0.true ∙ term_at_zero L)

pub returns-then-index-covered-2-clause-value : goal.returns-then-index-covered-2-clause-value
returns-then-index-covered-2-clause-value g c =
    let i = c.self.inside in
    let at : c.args.index ≡ i.base.index = omega (arith, c.if-index-covered-2.true, c.get-covered.ensures.value, c.index.ensures.value) in
    rw (← c.self.view_is) (inr (omega (arith, at)), c.term.ensures ∙ shown_covered g.M.Machine.spec i.base.index i.base.term i.tail.items c.args.index c.if-index-eq0.false (omega (arith, at)))

pub returns-then-index-covered-2-clause-whole : goal.returns-then-index-covered-2-clause-whole
returns-then-index-covered-2-clause-whole g c = λ L is.
    let i = c.self.inside in
    let at : c.args.index ≡ i.base.index = omega (arith, c.if-index-covered-2.true, c.get-covered.ensures.value, c.index.ensures.value) in
    let low : c.args.self.now.base.index ≤ c.args.index = rw (← c.self.view_is) (omega (arith, at)) in
    (returns-then-index-covered-2-clause-value g c).1 ∙ whole_term g.M.Machine.spec i.base i.tail.items c.args.self.now c.self.view_is c.self.invariant.snapshot L is c.args.index low

pub returns-in-Some-clause-value : goal.returns-in-Some-clause-value
returns-in-Some-clause-value g c =
    let i = c.self.inside in
    let past : i.base.index < c.args.index = omega (arith, c.if-index-covered.false, c.if-index-covered-2.false, c.get-covered.ensures.value, c.index.ensures.value) in
    let there = rw (c.deref.ensures.value, c.get-covered.ensures.value, c.index.ensures.value) at c.in-Some.ensures.lookup in
    rw (← c.self.view_is) (inr (omega (arith, past)), shown_there g.M.Machine.spec i.base.index i.base.term i.tail.items c.args.index c.in-Some.entry.now past there.0 there.1)

pub returns-in-Some-clause-whole : goal.returns-in-Some-clause-whole
returns-in-Some-clause-whole g c = λ L is.
    let i = c.self.inside in
    let low : c.args.self.now.base.index ≤ c.args.index = rw (← c.self.view_is) (omega (arith, c.if-index-covered.false, c.get-covered.ensures.value, c.index.ensures.value)) in
    (returns-in-Some-clause-value g c).1 ∙ whole_term g.M.Machine.spec i.base i.tail.items c.args.self.now c.self.view_is c.self.invariant.snapshot L is c.args.index low

pub returns-in-None-clause-value : goal.returns-in-None-clause-value
returns-in-None-clause-value g c =
    let i = c.self.inside in
    let past : i.base.index < c.args.index = omega (arith, c.if-index-covered.false, c.if-index-covered-2.false, c.get-covered.ensures.value, c.index.ensures.value) in
    let out = rw (c.deref.ensures.value, c.get-covered.ensures.value, c.index.ensures.value) at c.in-None.ensures.lookup in
    rw (← c.self.view_is) (inr (omega (arith, past)), shown_past g.M.Machine.spec i.base.index i.base.term i.tail.items c.args.index past out.0)

pub returns-in-None-clause-whole : goal.returns-in-None-clause-whole
returns-in-None-clause-whole g c = λ L is.
    let i = c.self.inside in
    let low : c.args.self.now.base.index ≤ c.args.index = rw (← c.self.view_is) (omega (arith, c.if-index-covered.false, c.get-covered.ensures.value, c.index.ensures.value)) in
    (returns-in-None-clause-value g c).1 ∙ whole_term g.M.Machine.spec i.base i.tail.items c.args.self.now c.self.view_is c.self.invariant.snapshot L is c.args.index low
