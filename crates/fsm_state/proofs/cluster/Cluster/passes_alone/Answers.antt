use Rattle.std.proofs.Common.{◌≡◌, ◌≤◌, ◌++◌, List, length, sym, ap, subst, ◌∙◌, arith}
use Rattle.std.proofs.lemmas.List.{length-map}
use Rattle.fsm_tables.specs.Claims.{Claim}
use Rattle.fsm_model.specs.Plans.{place_claim, wanted}
use Rattle.fsm_state.proofs.Alone.{few_ended}
use Rattle.fsm_state.proofs.cluster.Cluster.passes_alone.Goals as goal

pub have_room-requires-clause-few_ended : goal.have_room-requires-clause-few_ended
have_room-requires-clause-few_ended c =
    let few = few_ended c.as_slice-stops.result.now c.args.self.now.allocs in
    subst (λ (cs : List Claim). length cs ≤ 64) (sym (c.as_slice.ensures ∙ c.in_ok-ended.ensures)) (omega (arith, few, c.as_slice-stops.ensures.limit))

pub have_room-requires-clause-few_wanted : goal.have_room-requires-clause-few_wanted
have_room-requires-clause-few_wanted c =
    let p = c.args.plan.now in
    let few : length p.places ≤ 64 = c.ranges-2.ensures.5.0 in
    let size : length (wanted p) ≡ length p.places = length-map p.places (place_claim p) in
    subst (λ (cs : List Claim). length cs ≤ 64) (sym (c.as_slice-2.ensures ∙ c.in_ok-add_wanted.ensures ∙ ap (λ (cs : List Claim). cs ++ wanted p) c.new-wanted.ensures)) (omega (arith, few, size))
