use Rattle.std.proofs.Common.{arith, subst, sym}
use Rattle.raft_snapshot.specs.Changes.{SharesEntries}
use Rattle.raft_core.specs.StoredParts.{stored_part}
use Rattle.raft_records.specs.Remembering.{SharesTerms}
use Rattle.raft_records.proofs.Deltas.{shares, nothing}
use Rattle.raft_records.proofs.delta.changed.Goals as goal

pub returns-then-get-keep : goal.returns-then-get-keep
returns-then-get-keep g c = λ old r keeps.
    let b = c.args.before.now in
    let new = c.args.server.now in
    let keep = c.kept-keep.result in
    let made = c.kept-keep.ensures in
    let same = subst (λ l. SharesTerms b.commit l keep new) c.as_slice.ensures.value made.same in
    nothing b old new r keeps (omega (arith, c.if-get.false, c.get.ensures.value, c.get-2.ensures.value, c.covered.ensures.value)) keep made.least
    (omega (arith, made.most, c.as_slice.ensures.len)) same (omega (arith, c.if-keep-get.false, c.get-3.ensures.value, c.last-last.ensures.shown))
    (omega (arith, c.if-keep-get-2.false, c.get-else-keep-get.ensures.value)) (omega (arith, c.if-keep-get-3.false, c.get-else-keep-get-2.ensures.value))
    c.if-is_same.ensures.0 c.if-is_same.ensures.1 (omega (arith, c.if-keep-get-4.true, c.get-then-is_same.ensures.value))
    (omega (arith, c.if-get-keep.true, c.get-then-keep-get-4.ensures.value, c.last-last.ensures.shown))

pub returns-in-Some : goal.returns-in-Some
returns-in-Some g c = λ old r keeps.
    let b = c.args.before.now in
    let new = c.args.server.now in
    let keep = c.kept-keep.result in
    let made = c.kept-keep.ensures in
    let same = subst (λ l. SharesTerms b.commit l keep new) c.as_slice.ensures.value made.same in
    let so = shares b old new r keeps (omega (arith, c.if-get.false, c.get.ensures.value, c.get-2.ensures.value, c.covered.ensures.value)) keep made.least
    (omega (arith, made.most, c.as_slice.ensures.len)) same (omega (arith, c.if-keep-get.false, c.get-3.ensures.value, c.last-last.ensures.shown))
    (omega (arith, c.if-keep-get-2.false, c.get-else-keep-get.ensures.value)) (omega (arith, c.if-keep-get-3.false, c.get-else-keep-get-2.ensures.value)) in
    subst (SharesEntries (stored_part old).log (stored_part new).log) (sym c.in-Some.ensures.some.0) so
