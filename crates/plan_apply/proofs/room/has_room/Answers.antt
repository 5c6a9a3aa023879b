use Rattle.std.proofs.Common.{◌≤◌, T, List, subst, ap, ◌∙◌, arith}
use Rattle.rows.specs.declared.allocation.Allocation.{Allocation}
use Rattle.rows.specs.declared.command.AcceptedPlace.{AcceptedPlace}
use Rattle.rows.specs.Keys.{alloc_cmp, alloc_id}
use Rattle.rows.specs.Rising.{is_rising}
use Rattle.rows.specs.Sizes.{amount, plus, fits}
use Rattle.fsm_tables.specs.Claims.{used}
use Rattle.group_model.specs.Acceptance.{place_claims}
use Rattle.plan_apply.proofs.Rooming.{room_test}
use Rattle.plan_apply.proofs.room.has_room.Goals as goal

pub add-requires : goal.add-requires
add-requires c = λ p.
    let held : amount p c.taken-held.result ≤ 64000000 = c.taken-held.ensures.small p in
    let new : amount p c.taken-new.result ≤ 64000000 = c.taken-new.ensures.small p in
    omega (arith, held, new)

pub returns : goal.returns
returns c =
    let n = c.args.node.now in
    let job = c.args.job.now in
    let h = subst (λ (rows : List Allocation). T (is_rising alloc_cmp alloc_id rows)) c.alloc_table.ensures.rows c.ranges-2.ensures.rising in
    let held = c.taken-held.ensures.value job ∙ ap (λ (ks : List AcceptedPlace). used n.number (place_claims job ks)) c.as_slice.ensures in
    c.is_enough.ensures
    ∙ ap (λ z. fits (plus c.used-used.result z) (plus c.of.result c.taken-less.result)) c.add.ensures
    ∙ (λ i. fits (plus (c.used-used.ensures i) (plus (held i) (c.taken-new.ensures.value job i))) (plus (c.of.ensures.value i) (c.taken-less.ensures.value job i)))
    ∙ room_test c.args.state.now c.args.stopped.now job c.args.kept.now.places c.args.more.now n h c.requires.ended
