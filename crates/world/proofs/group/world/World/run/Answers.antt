use Rattle.std.proofs.Common.{◌≡◌, ◌<◌, ◌+◌, take_all, [], ◌∷◌, ◌++◌, length, take, ap, ◌∙◌, sym, subst, arith}
use Rattle.std.proofs.lemmas.List.{take_more}
use Rattle.group_inputs.specs.Events.{group_event, group_events}
use Rattle.world.specs.GroupSteps.{GroupPlayed}
use Rattle.world.proofs.GroupBegins.{nodes_fit}
use Rattle.world.proofs.GroupReplays.{group_event_more, group_play_begins, group_play_next, group_replays}
use Rattle.world.proofs.group.world.World.run.Goals as goal

pub returns-clause-played : goal.returns-clause-played
returns-clause-played c =
    subst (λ es. GroupPlayed c.args.n c.args.nodes.now (group_events es) c.loop-event.world) (take_all c.loop-event.event-index c.args.events.now (omega arith)) c.loop-event.invariant

pub returns-clause-replays : goal.returns-clause-replays
returns-clause-replays c =
    group_replays c.args.n c.args.nodes.now (group_events c.args.events.now) c.loop-event.world
    (subst (λ es. GroupPlayed c.args.n c.args.nodes.now (group_events es) c.loop-event.world) (take_all c.loop-event.event-index c.args.events.now (omega arith)) c.loop-event.invariant)

pub loop-event-init : goal.loop-event-init
loop-event-init c = group_play_begins c.args.n c.args.nodes.now _ c.in_ok-world.ensures.ok

pub loop-event-preserved : goal.loop-event-preserved
loop-event-preserved c =
    let inside : c.loop-event.event-index < length c.args.events.now = omega arith in
    let item = c.event-item.result in
    let before = take c.loop-event.event-index c.args.events.now in
    let begun = c.in_ok-world.ensures.ok in
    let more : take (c.loop-event.event-index + 1) c.args.events.now ≡ before ++ item ∷ [] =
    take_more c.args.events.now c.loop-event.event-index item inside ∙ ap (λ e. before ++ e ∷ []) (sym c.event-item.is) in
    let again : group_events (take (c.loop-event.event-index + 1) c.args.events.now) ≡ group_events before ++ group_event c.in_ok-try_clone.field-0 ∷ [] =
    group_event_more before _ item more ∙ ap (λ e. group_events before ++ e ∷ []) (sym c.in_ok-try_clone.ensures.same) in
    subst (λ es. GroupPlayed c.args.n c.args.nodes.now es c.step-done.new.self) (sym again)
    (group_play_next c.args.n c.args.nodes.now c.limits_are_kept.ensures (nodes_fit c.args.nodes.now begun.few c.all_ranges.ensures) (group_events before) c.loop-event.world c.step-done.new.self
    (group_event c.in_ok-try_clone.field-0) c.step-done.result c.loop-event.invariant c.step-done.ensures.ok c.step-done.ensures.err c.step-done.ensures.cause c.if-is_out_of_memory.ensures)
