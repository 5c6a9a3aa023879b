use Rattle.std.proofs.Common.{◌≡◌, ◌≢◌, ◌<◌, ◌++◌, ◌∷◌, [], Err, IsTrue, inl, inr, length, map, refl, rules}
use Rattle.std.specs.List.{repeat}
use Rattle.serde_json.specs.View.{items_view, view}
use Rattle.sim_expand.specs.declared.short.Part.TheVariants.{Step, Repeat}
use Rattle.sim_expand.specs.Inner.Parts.{IsPartOf}
use Rattle.sim_expand.specs.Inner.Totals.{IsTotal}
use Rattle.sim_expand.specs.ShortSteps.{short_step}
use Rattle.sim_expand.proofs.Shorts.{line_comes, list_comes, next_comes, none_at, none_deeper, repeat_comes, too_many}
use Rattle.sim_expand.proofs.short.+short_steps.Goals as goal
use Rattle.sim_expand.proofs.short.+short_steps.Goals.{in-Step+in_ok-put_one-in-Step, in-Repeat+else-depth-eq0+in_ok-own-in-Repeat+in_ok-put_repeated-in-Repeat}

pub loop-value-preserved : goal.loop-value-preserved
loop-value-preserved t c =
    let list = c.args.list.now in
    let i = c.loop-value.value-index in
    let v = c.value-item.result in
    let inside : i < length list = search rules in
    let front = c.loop-value.invariant.0 in
    let are = c.loop-value.invariant.1 in
    let is = c.loop-value.invariant.2 in
    elim c.match-branch-2.branch [
      | in-Step+in_ok-put_one-in-Step w ↦
          let part : IsPartOf (view v) (Step w.in-Step.step) = rw w.in-Step.is at c.in_ok-step.ensures.ok in
          let put = w.in_ok-put_one-in-Step.ensures.put front is in
          let one = short_step w.in-Step.step in
          rw w.total-is (
            front ++ one ∷ [],
            next_comes c.args.depth list i v front (one ∷ []) _ inside c.value-item.is are.0 (line_comes c.args.depth (view v) part.0 one part.1 part.2) refl put.0,
            put.1,
          )
      | in-Repeat+else-depth-eq0+in_ok-own-in-Repeat+in_ok-put_repeated-in-Repeat w ↦
          let part : IsPartOf (view v) (Repeat w.in-Repeat.times w.in-Repeat.list) = rw w.in-Repeat.is at c.in_ok-step.ensures.ok in
          let deep : c.args.depth ≢ 0 = search rules in
          let own = rw w.deref.ensures.value at w.in_ok-own-in-Repeat.ensures.ok in
          let of : IsTotal (IsTrue c.args.kept × (0 < w.in-Repeat.times)) own.0 w.in_ok-own-in-Repeat.own = (own.2.0, λ kept. own.2.1 (w.are_kept.ensures.1 kept)) in
          let put = w.in_ok-put_repeated-in-Repeat.ensures.put own.0 of front is in
          rw w.total-is (
            front ++ repeat w.in-Repeat.times own.0,
            next_comes c.args.depth list i v front (repeat w.in-Repeat.times own.0) _ inside c.value-item.is are.0
                (repeat_comes c.args.depth (view v) w.in-Repeat.times (map view w.in-Repeat.list.now.items) own.0 deep part own.1) refl put.0,
            put.1,
          )
    ]

pub returns-in_err-step-clause-refused : goal.returns-in_err-step-clause-refused
returns-in_err-step-clause-refused t c =
    let list = c.args.list.now in
    let i = c.loop-value.value-index in
    let v = c.value-item.result in
    let inside : i < length list = search rules in
    let same : c.from_residual.result ≡ Err c.in_err-step.field-0.0 = search rules in
    rw same (elim c.in_err-step.ensures.refused [
      | inl memory ↦ inl memory
      | inr none ↦ inr (none.0, none_at c.args.depth list i v inside c.value-item.is (none.1 c.args.depth))
    ])

pub returns-in_err-put_one-in-Step-clause-refused : goal.returns-in_err-put_one-in-Step-clause-refused
returns-in_err-put_one-in-Step-clause-refused t c =
    let list = c.args.list.now in
    let i = c.loop-value.value-index in
    let v = c.value-item.result in
    let inside : i < length list = search rules in
    let part : IsPartOf (view v) (Step c.in-Step.step) = rw c.in-Step.is at c.in_ok-step.ensures.ok in
    let one = short_step c.in-Step.step in
    let front = c.loop-value.invariant.0 in
    let same : c.from_residual-in_err-put_one-in-Step.result ≡ Err c.in_err-put_one-in-Step.field-0.0 = search rules in
    rw same (elim c.in_err-put_one-in-Step.ensures.refused [
      | inl memory ↦ inl memory
      | inr many ↦ inr (
        many.0,
        too_many c.args.depth list i v front (one ∷ []) inside c.value-item.is c.loop-value.invariant.1.0 (line_comes c.args.depth (view v) part.0 one part.1 part.2)
            (many.1 front c.loop-value.invariant.2.0),
      )
    ])

pub returns-then-depth-eq0-clause-refused : goal.returns-then-depth-eq0-clause-refused
returns-then-depth-eq0-clause-refused t c =
    let list = c.args.list.now in
    let i = c.loop-value.value-index in
    let v = c.value-item.result in
    let inside : i < length list = search rules in
    let part : IsPartOf (view v) (Repeat c.in-Repeat.times c.in-Repeat.list) = rw c.in-Repeat.is at c.in_ok-step.ensures.ok in
    inr (
      refl,
      none_at c.args.depth list i v inside c.value-item.is
          (λ own comes. none_deeper (view v) c.in-Repeat.times (items_view c.in-Repeat.list.now.items) own part (rw c.if-depth-eq0.true at comes)),
    )

pub returns-in_err-own-in-Repeat-clause-refused : goal.returns-in_err-own-in-Repeat-clause-refused
returns-in_err-own-in-Repeat-clause-refused t c =
    let list = c.args.list.now in
    let i = c.loop-value.value-index in
    let v = c.value-item.result in
    let inside : i < length list = search rules in
    let part : IsPartOf (view v) (Repeat c.in-Repeat.times c.in-Repeat.list) = rw c.in-Repeat.is at c.in_ok-step.ensures.ok in
    let deep : c.args.depth ≢ 0 = search rules in
    let ds = map view c.in-Repeat.list.now.items in
    let same : c.from_residual-in_err-own-in-Repeat.result ≡ Err c.in_err-own-in-Repeat.field-0.0 = search rules in
    rw same (elim (rw c.deref.ensures.value at c.in_err-own-in-Repeat.ensures.refused) [
      | inl memory ↦ inl memory
      | inr none ↦ inr (
        none.0,
        none_at c.args.depth list i v inside c.value-item.is
            (λ own comes. let some = list_comes c.args.depth (view v) c.in-Repeat.times ds own deep part comes in none.1 some.0 some.1),
      )
    ])

pub returns-in_err-put_repeated-in-Repeat-clause-refused : goal.returns-in_err-put_repeated-in-Repeat-clause-refused
returns-in_err-put_repeated-in-Repeat-clause-refused t c =
    let list = c.args.list.now in
    let i = c.loop-value.value-index in
    let v = c.value-item.result in
    let inside : i < length list = search rules in
    let part : IsPartOf (view v) (Repeat c.in-Repeat.times c.in-Repeat.list) = rw c.in-Repeat.is at c.in_ok-step.ensures.ok in
    let deep : c.args.depth ≢ 0 = search rules in
    let own = rw c.deref.ensures.value at c.in_ok-own-in-Repeat.ensures.ok in
    let of : IsTotal (IsTrue c.args.kept × (0 < c.in-Repeat.times)) own.0 c.in_ok-own-in-Repeat.own = (own.2.0, λ kept. own.2.1 (c.are_kept.ensures.1 kept)) in
    let front = c.loop-value.invariant.0 in
    let same : c.from_residual-in_err-put_repeated-in-Repeat.result ≡ Err c.in_err-put_repeated-in-Repeat.field-0.0 = search rules in
    rw same (elim (c.in_err-put_repeated-in-Repeat.ensures.refused own.0 of) [
      | inl memory ↦ inl memory
      | inr many ↦ inr (
        many.0,
        too_many c.args.depth list i v front (repeat c.in-Repeat.times own.0) inside c.value-item.is c.loop-value.invariant.1.0
            (repeat_comes c.args.depth (view v) c.in-Repeat.times (map view c.in-Repeat.list.now.items) own.0 deep part own.1)
            (many.1 front c.loop-value.invariant.2.0),
      )
    ])
