use Rattle.std.proofs.Common.{ap, ◌∙◌, length, ◌≡◌, ℕ, ◌+◌, ◌<◌, subst, arith}
use Rattle.pages.specs.Inner.Parts.{rows_of}
use Rattle.pages.specs.Runs.{IsRun}
use Rattle.pages.specs.Inner.Slots.{slot_rows}
use Rattle.pages.proofs.Here.{next_position, run_here, past_all}
use Rattle.pages.proofs.level.LevelPart.run_from.Goals as goal

from_start : (n : ℕ) → 0 + n ≡ n
from_start n = omega arith

pub loop-slot-init : goal.loop-slot-init
loop-slot-init g c = from_start c.args.position

pub loop-slot-preserved : goal.loop-slot-preserved
loop-slot-preserved g c = next_position (slot_rows g.C.Part.rows) c.deref-slot-items.result.now c.loop-slot.slot-index c.slot-item.result c.loop-slot.left c.len-count.result c.args.position c.loop-slot-test.true c.slot-item.is
    (c.len-count.ensures ∙ ap (λ z. length (g.C.Part.rows z)) c.deref.ensures) c.if-left-count.false c.loop-slot.invariant

pub returns-then-left-count : goal.returns-then-left-count
returns-then-left-count g c =
    let rows = g.C.Part.rows in
    let e = c.len-count.ensures ∙ ap (λ z. length (rows z)) c.deref.ensures in
    run_here (slot_rows rows) c.deref-slot-items.result.now c.loop-slot.slot-index c.slot-item.result c.loop-slot.left c.args.position c.run_from.result.now c.args.self.now c.loop-slot-test.true c.slot-item.is
    (subst (λ n. c.loop-slot.left < n) e c.if-left-count.true) c.loop-slot.invariant
    (subst (λ z. IsRun (rows z) c.loop-slot.left c.run_from.result.now) c.deref-then-left-count.ensures c.run_from.ensures)
    (ap (rows_of (slot_rows rows)) c.deref-slot-items.ensures.value ∙ c.self.view_is)

pub returns : goal.returns
returns g c =
    let rows = g.C.Part.rows in
    past_all (slot_rows rows) c.deref-slot-items.result.now c.loop-slot.slot-index c.loop-slot.left c.args.position c.args.self.now c.loop-slot-test.false c.loop-slot.invariant
    (ap (rows_of (slot_rows rows)) c.deref-slot-items.ensures.value ∙ c.self.view_is)
