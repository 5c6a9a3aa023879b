use Rattle.std.proofs.Common.{ap, arith, length, map, rules, subst, sym}
use Rattle.cluster.specs.Inner.Merged.{taken_event_in}
use Rattle.cluster.specs.Inner.Numbers.{AreOffsets, FallsWithin, NumberedSoFar}
use Rattle.cluster.proofs.Due.{falls_next}
use Rattle.cluster.proofs.Loops.{all_seen, one_more}
use Rattle.cluster.proofs.Numbers.{numbered_all, numbered_first, numbered_more}
use Rattle.cluster.proofs.numbering.number.Goals as goal

pub loop-placed-init : goal.loop-placed-init
loop-placed-init c = (
  c.into_iter-placed-iterator.ensures.into_iter_gives.0,
  search rules,
  numbered_first (map taken_event_in c.args.merged.items) _ _ c.new-events.ensures.items c.new-offsets.ensures.items,
)

pub event_at-requires : goal.event_at-requires
event_at-requires c =
    let at = c.loop-placed in
    let e = c.in-Some.ensures.steps in
    subst (λ offsets. FallsWithin offsets at.total c.in-Some.placed.event) (sym c.deref.ensures.value)
    (falls_next c.args.merged.items at.yielded _ _ c.in-Some.placed at.events.items at.offsets.items at.total at.invariant.0 e.0 c.requires at.invariant.2)

pub loop-placed-preserved : goal.loop-placed-preserved
loop-placed-preserved c =
    let at = c.loop-placed in
    let e = c.in-Some.ensures.steps in (
      one_more _ _ _ _ c.in-Some.placed at.invariant.0 e.0,
      (let was = at.invariant.1 in
          let gone = e.1 in
          let short = ap length e.0 in
          omega arith),
      numbered_more c.args.merged.items at.yielded _ _ c.in-Some.placed at.events.items _ c.in_ok-event_at.field-0 at.offsets.items _ at.total _ at.invariant.0 e.0 at.invariant.2 c.in_ok-push.ensures.items c.in_ok-push-2.ensures.items c.in_ok-total.ensures.ok
          (λ fits. c.in_ok-event_at.ensures.ok (map taken_event_in c.args.merged.items) (subst (AreOffsets (map taken_event_in c.args.merged.items)) (sym c.deref.ensures.value) fits)),
    )

pub returns : goal.returns
returns c log same =
    let at = c.loop-placed in
    let all = map taken_event_in c.args.merged.items in
    numbered_all log all at.events.items at.offsets.items at.total
    (subst (λ l. NumberedSoFar all (map taken_event_in l) at.events.items at.offsets.items at.total) (all_seen _ _ _ _ at.invariant.0 at.invariant.1 c.in-None.ensures.steps.0) at.invariant.2) same
