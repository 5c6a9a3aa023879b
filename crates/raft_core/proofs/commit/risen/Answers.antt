use Rattle.std.proofs.Common.{length, arith, ◌∙◌, sym}
use Rattle.raft_core.specs.Inner.Commits.{is_chosen_in}
use Rattle.raft_core.proofs.Commits.{jump, step_down, found, greatest-none}
use Rattle.raft_core.proofs.commit.risen.Goals as goal

pub loop-index-preserved-then-not-is_quorum : goal.loop-index-preserved-then-not-is_quorum
loop-index-preserved-then-not-is_quorum g c =
    let a = c.args in
    let low = c.next_lower-index.result in
    let done = c.loop-index.invariant in
    let lower = c.next_lower-index.ensures in
    let none = sym c.is_quorum.ensures ∙ c.if-not-is_quorum.true in
    record {
      within = omega (arith, lower.below, done.within);
      same = done.same ∙ jump (length a.matched.now) a.me a.term a.log.now.entries a.matched.now a.commit c.loop-index.index low (omega (arith, lower.below)) none lower.others;
    }

pub returns-then-get-clause-value : goal.returns-then-get-clause-value
returns-then-get-clause-value g c =
    let a = c.args in
    let held = sym c.is_quorum.ensures ∙ c.if-not-is_quorum.false in
    let same = sym c.term_at.ensures ∙ sym c.get-else-not-is_quorum.ensures.value ∙ c.if-get.true ∙ c.get-else-not-is_quorum-2.ensures.value in
    sym (c.loop-index.invariant.same ∙ found (length a.matched.now) a.me a.term a.log.now.entries a.matched.now a.commit c.loop-index.index (omega (arith, c.loop-index-test.true, c.get.ensures.value)) held same)

pub loop-index-preserved : goal.loop-index-preserved
loop-index-preserved g c =
    let a = c.args in
    let done = c.loop-index.invariant in
    record {
      within = omega (arith, done.within);
      same = done.same ∙ step_down (length a.matched.now) a.me a.term a.log.now.entries a.matched.now a.commit c.loop-index.index (omega (arith, c.loop-index-test.true)) (λ e. c.if-get.false (c.get-else-not-is_quorum.ensures.value ∙ c.term_at.ensures ∙ e ∙ sym c.get-else-not-is_quorum-2.ensures.value));
    }

pub returns-clause-value : goal.returns-clause-value
returns-clause-value g c =
    let a = c.args in
    let test = is_chosen_in (length a.matched.now) a.me a.term a.log.now.entries a.matched.now in
    c.get-2.ensures.value ∙ sym (c.loop-index.invariant.same ∙ greatest-none test a.commit c.loop-index.index (omega (arith, c.loop-index-test.false, c.get.ensures.value)))
