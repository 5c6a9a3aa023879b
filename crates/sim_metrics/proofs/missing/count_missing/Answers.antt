use Rattle.std.proofs.Common.{◌≡◌, ◌∙◌, ◌-◌, ◌+◌, [], ◌∷◌, suc, true, false, ap, arith, filter, length, sym}
use Rattle.group_model.specs.Scheduling.{WantedName, is_missing, names_from}
use Rattle.scheduler.proofs.Names.{kept_next, passed_next}
use Rattle.sim_metrics.proofs.missing.count_missing.Goals as goal
use Rattle.sim_metrics.proofs.missing.count_missing.Goals.{then-is_missing, else-is_missing}

pub loop-number-preserved : goal.loop-number-preserved
loop-number-preserved c =
    let g = c.args.group.now in
    let i = c.loop-number.number in
    let those = is_missing c.args.state.now c.args.job.now in
    let here : WantedName = record { group = g; index = i } in
    let rest = filter those (names_from g (i + 1) (g.count - (i + 1))) in
    let whole = filter those (names_from g i (g.count - i)) in
    let e : g.count - i ≡ suc (g.count - (i + 1)) = omega (arith, c.loop-number-test.true, c.get-number-end.ensures.value) in
    let looked = ap (λ n. those (record { group = g; index = n })) (sym c.in-Some.ensures.some.0) ∙ sym c.is_missing.ensures in
    let inv = c.loop-number.invariant in
    elim c.if-is_missing.branch [
      | then-is_missing w ↦
          let more : length (here ∷ rest) ≡ length whole = ap length (kept_next those g [] i (g.count - i) (g.count - (i + 1)) e (looked ∙ w.if-is_missing.true)) in
          (omega (arith, w.count-is, inv.0), omega (arith, w.count-is, more, inv.1))
      | else-is_missing w ↦
          let same : length rest ≡ length whole = ap length (passed_next those g [] i (g.count - i) (g.count - (i + 1)) e (looked ∙ w.if-is_missing.false)) in
          (omega (arith, w.count-is, inv.0), omega (arith, w.count-is, same, inv.1))
    ]
