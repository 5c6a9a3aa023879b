use Rattle.std.proofs.Common.{◌≡◌, ◌<◌, ◌+◌, take_all, [], ◌∷◌, ◌++◌, length, take, ap, ◌∙◌, sym, refl, subst, arith}
use Rattle.std.proofs.lemmas.List.{take_more}
use Rattle.world.specs.Events.{world_event, world_events}
use Rattle.world.specs.Steps.{Played}
use Rattle.world.proofs.Events.{one_event_more}
use Rattle.world.proofs.Playing.{play_begins, play_next}
use Rattle.world.proofs.Replays.{replays}
use Rattle.world.proofs.world.RaftWorld.run.Goals as goal

pub returns-clause-played : goal.returns-clause-played
returns-clause-played g c =
    subst (λ es. Played g.M.Machine.spec c.args.n (world_events es) c.loop-event.world) (take_all c.loop-event.event-index c.args.events.now (omega arith)) c.loop-event.invariant

pub returns-clause-replays : goal.returns-clause-replays
returns-clause-replays g c =
    replays g.M.Machine.spec c.args.n (world_events c.args.events.now) c.loop-event.world
    (subst (λ es. Played g.M.Machine.spec c.args.n (world_events es) c.loop-event.world) (take_all c.loop-event.event-index c.args.events.now (omega arith)) c.loop-event.invariant)

pub loop-event-init : goal.loop-event-init
loop-event-init g c = play_begins g.M.Machine.spec c.args.n _ c.in_ok-world.ensures.ok

pub loop-event-preserved : goal.loop-event-preserved
loop-event-preserved g c =
    let m = g.M.Machine.spec in
    let inside : c.loop-event.event-index < length c.args.events.now = omega arith in
    let item = c.event-item.result in
    let before = take c.loop-event.event-index c.args.events.now in
    let more : take (c.loop-event.event-index + 1) c.args.events.now ≡ before ++ item ∷ [] =
    take_more c.args.events.now c.loop-event.event-index item inside ∙ ap (λ e. before ++ e ∷ []) (sym c.event-item.is) in
    let again : world_events (take (c.loop-event.event-index + 1) c.args.events.now) ≡ world_events before ++ world_event c.in_ok-again.field-0 ∷ [] =
    one_event_more before _ before item refl more ∙ ap (λ e. world_events before ++ e ∷ []) (sym c.in_ok-again.ensures.0) in
    subst (λ es. Played m c.args.n es c.step-done.new.self) (sym again)
    (play_next m c.args.n (world_events (take c.loop-event.event-index c.args.events.now)) c.loop-event.world c.step-done.new.self (world_event c.in_ok-again.field-0) c.step-done.result c.in_ok-again.ensures.1
    c.loop-event.invariant c.step-done.ensures.ok c.step-done.ensures.err c.step-done.ensures.cause c.if-is_out_of_memory.ensures)
