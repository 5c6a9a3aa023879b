use Rattle.std.proofs.Common.{◌≡◌, ◌-◌, ◌+◌, ◌++◌, ◌∷◌, [], suc, true, false, filter, sym, ap, ◌∙◌, arith}
use Rattle.group_model.specs.Scheduling.{names_from, is_missing}
use Rattle.scheduler.proofs.Names.{kept_next, passed_next}
use Rattle.scheduler.proofs.missing.add_missing.Goals as goal

pub loop-number-preserved-then-not-is_missing : goal.loop-number-preserved-then-not-is_missing
loop-number-preserved-then-not-is_missing c =
    let g = c.args.group.now in
    let i = c.loop-number.number in
    let those = is_missing c.args.state.now c.args.job.now in
    let at = c.in-Some.ensures.some.0 in
    let e : g.count - i ≡ suc (g.count - (i + 1)) = omega (arith, c.loop-number-test.true, c.get-number-end.ensures.value) in
    let pass : those (record { group = g; index = i }) ≡ false = ap (λ n. those (record { group = g; index = n })) (sym at) ∙ sym c.is_missing.ensures ∙ c.if-not-is_missing.true in
    passed_next those g c.loop-number.names i (g.count - i) (g.count - (i + 1)) e pass ∙ c.loop-number.invariant

pub loop-number-preserved : goal.loop-number-preserved
loop-number-preserved c =
    let g = c.args.group.now in
    let i = c.loop-number.number in
    let those = is_missing c.args.state.now c.args.job.now in
    let at = c.in-Some.ensures.some.0 in
    let e : g.count - i ≡ suc (g.count - (i + 1)) = omega (arith, c.loop-number-test.true, c.get-number-end.ensures.value) in
    let pass : those (record { group = g; index = i }) ≡ true = ap (λ n. those (record { group = g; index = n })) (sym at) ∙ sym c.is_missing.ensures ∙ c.if-not-is_missing.false in
    ap (λ zs. zs ++ filter those (names_from g (i + 1) (g.count - (i + 1)))) c.in_ok-push.ensures.ok
    ∙ ap (λ n. (c.loop-number.names ++ record { group = g; index = n } ∷ []) ++ filter those (names_from g (i + 1) (g.count - (i + 1)))) at
    ∙ kept_next those g c.loop-number.names i (g.count - i) (g.count - (i + 1)) e pass ∙ c.loop-number.invariant
