use Rattle.std.proofs.Common.{◌≡◌, ◌+◌, [], drop, sym, ap, ◌∙◌, arith}
use Rattle.std.proofs.Math.ListN.{drop_of_length-le}
use Rattle.raft_model.specs.Logs.{merge}
use Rattle.raft_snapshot.proofs.Merges.{stays_within, stays_not, merge_none, merge_next, merge_here}
use Rattle.raft_snapshot.proofs.merge.first_new.Goals as goal

pub returns-then-not-stays : goal.returns-then-not-stays
returns-then-not-stays g c =
    let a = c.args in
    let i = c.loop-i.i in
    let not = sym c.stays.ensures ∙ c.if-not-stays.true in
    let cut = merge_here a.commit a.prev a.log.now.entries a.entries.now i c.index-entries-i.result c.loop-i-test.true c.index-entries-i.is not in
    let past = stays_not a.commit (a.prev + i + 1) _ not in
    (c.loop-i.invariant.same ∙ cut, c.loop-i-test.true, omega (arith, past), c.loop-i.invariant.within)

pub loop-i-preserved : goal.loop-i-preserved
loop-i-preserved g c =
    let a = c.args in
    let i = c.loop-i.i in
    let is = sym c.stays.ensures ∙ c.if-not-stays.false in
    let next = merge_next a.commit a.prev a.log.now.entries a.entries.now i c.index-entries-i.result c.loop-i-test.true c.index-entries-i.is is in
    let within = stays_within a.commit (a.prev + i + 1) a.log.now.entries _ c.requires.committed is in
    record { within = omega (arith, within); same = c.loop-i.invariant.same ∙ next }

pub returns : goal.returns
returns g c =
    let a = c.args in
    let at = c.loop-i in
    let none : drop at.i a.entries.now ≡ [] = drop_of_length-le a.entries.now (omega (arith, c.loop-i-test.false)) in
    (at.invariant.same ∙ ap (merge a.commit (a.prev + at.i) a.log.now.entries) none ∙ merge_none a.commit (a.prev + at.i) a.log.now.entries, omega (arith, at.invariant.within))
