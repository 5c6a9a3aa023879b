use Rattle.std.proofs.Common.{length, map, refl, sym, ap, subst, ◌∙◌, arith}
use Rattle.std.specs.Prelude.{nat_eq}
use Rattle.std.proofs.lemmas.List.{length-map}
use Rattle.group_model.specs.Scheduling.{GoesOn, missing_names, unsized}
use Rattle.scheduler.specs.Inner.Growing.{part_of}
use Rattle.scheduler.proofs.Determined.{small_plan}
use Rattle.scheduler.proofs.planning.plan.Goals as goal

pub batch-requires : goal.batch-requires
batch-requires c =
    let s = c.args.state.now in
    let job = c.args.eval.now.job in
    let whole = part_of c.place_all.new.plan in
    let goes = subst (λ p. GoesOn s job p (missing_names s job) whole) c.in_ok-growing.ensures.part
    (subst (λ ws. GoesOn s job (part_of c.in_ok-growing.growing) ws whole) (c.as_slice.ensures ∙ c.in_ok-missing.ensures) c.in_ok-place_all.ensures) in
    (small_plan s job whole goes).stops

pub batch-requires-2 : goal.batch-requires-2
batch-requires-2 c =
    let s = c.args.state.now in
    let job = c.args.eval.now.job in
    let whole = part_of c.place_all.new.plan in
    let goes = subst (λ p. GoesOn s job p (missing_names s job) whole) c.in_ok-growing.ensures.part
    (subst (λ ws. GoesOn s job (part_of c.in_ok-growing.growing) ws whole) (c.as_slice.ensures ∙ c.in_ok-missing.ensures) c.in_ok-place_all.ensures) in
    let few = (small_plan s job whole goes).places in
    let long = ap length (c.in_ok-places.ensures ∙ ap (map unsized) c.as_slice-2.ensures) ∙ length-map whole.places unsized in
    omega (arith, few, long)

pub returns-clause-plan : goal.returns-clause-plan
returns-clause-plan c =
    let s = c.args.state.now in
    let job = c.args.eval.now.job in
    let whole = part_of c.place_all.new.plan in
    let goes = subst (λ p. GoesOn s job p (missing_names s job) whole) c.in_ok-growing.ensures.part
    (subst (λ ws. GoesOn s job (part_of c.in_ok-growing.growing) ws whole) (c.as_slice.ensures ∙ c.in_ok-missing.ensures) c.in_ok-place_all.ensures) in
    let places = c.batch-2.ensures ∙ c.in_ok-places.ensures ∙ ap (map unsized) c.as_slice-2.ensures in
    record {
      whole = whole;
      goes_on = goes;
      stops = c.batch.ensures;
      places = places;
      version = c.version_of.ensures;
      snapshot = refl;
      all_placed = λ i. nat_eq ((c.len.ensures ∙ ap length (sym c.batch-2.ensures)) i) ((c.len-2.ensures ∙ ap length c.in_ok-missing.ensures) i);
    }
