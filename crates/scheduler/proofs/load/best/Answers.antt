use Rattle.std.proofs.Common.{◌≡◌, ◌<◌, true, option_map, sym, ◌∙◌, inl, inr}
use Rattle.scheduler.specs.Inner.Loads.{load_less}
use Rattle.scheduler.proofs.Best.{both_kinds, not_taken, taken}
use Rattle.scheduler.proofs.load.best.Goals as goal

pub loop-at-preserved-in_default : goal.loop-at-preserved-in_default
loop-at-preserved-in_default c =
    let f = load_less (option_map (λ r. r.now) c.args.gone) in
    not_taken f c.args.group.now c.args.loads.now c.loop-at.is_found c.loop-at.best c.loop-at.most c.loop-at.at c.index-loads-at.result
    c.loop-at.invariant c.loop-at-test.true c.index-loads-at.is c.in_default.ensures.none

pub loop-at-preserved : goal.loop-at-preserved
loop-at-preserved c =
    let f = load_less (option_map (λ r. r.now) c.args.gone) in
    let fuller : c.loop-at.is_found ≡ true → c.loop-at.most < c.in-Some.fullness = elim c.else-is_found.either [
      | inl h ↦ λ e. h.1
      | inr h ↦ λ e. absurd (both_kinds (sym e ∙ h))
    ] in
    taken f c.args.group.now c.args.loads.now c.loop-at.is_found c.loop-at.best c.loop-at.most c.loop-at.at c.index-loads-at.result
    c.loop-at.invariant c.loop-at-test.true c.index-loads-at.is c.in-Some.ensures.some.0 c.in-Some.fullness c.in-Some.ensures.some.1 fuller
