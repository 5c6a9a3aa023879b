use Rattle.std.proofs.Common.{◌≡◌, subst, sym, refl, rules, Some}
use Rattle.std.specs.List.{slice_get}
use Rattle.pages.specs.Inner.Parts.{rows_of}
use Rattle.pages.specs.Runs.{IsRun}
use Rattle.pages.specs.Inner.Slots.{slot_rows}
use Rattle.pages.proofs.Here.{run_here, head_of_run, some_of_run}
use Rattle.pages.proofs.level.first_row.Goals as goal

pub returns-in-Some : goal.returns-in-Some
returns-in-Some g c =
    let rows = g.C.Part.rows in
    let run = c.run_from.result.now in
    let first : slice_get run 0 ≡ Some c.in-Some.row.now = search rules in
    let here : IsRun (rows c.deref.result.now) 0 run = c.run_from.ensures in
    let part : IsRun (slot_rows rows c.slot-item.result) 0 run = subst (λ z. IsRun (rows z) 0 run) c.deref.ensures here in
    sym (head_of_run (rows_of (slot_rows rows) c.args.slots.now) run c.in-Some.row.now
    (run_here (slot_rows rows) c.args.slots.now c.loop-slot.slot-index c.slot-item.result 0 0 run (rows_of (slot_rows rows) c.args.slots.now) c.loop-slot-test.true c.slot-item.is
    (some_of_run (slot_rows rows c.slot-item.result) run c.in-Some.row.now part first) c.loop-slot.invariant part refl) first)
