use Rattle.std.proofs.Common.{[], ◌∷◌, ap, arith, length, rules, subst, sym, ◌∙◌}
use Rattle.std.proofs.lemmas.List.{map-append, nil_from_length}
use Rattle.std.specs.Vec.Iter.{into_iter_items}
use Rattle.group_inputs.specs.Events.{group_event, group_events}
use Rattle.cluster.specs.Inner.Runs.{IsReplayed}
use Rattle.cluster.proofs.Loops.{one_more}
use Rattle.cluster.proofs.Replays.{replay_begins, replay_next, replay_ends}
use Rattle.cluster.proofs.replaying.replay.Goals as goal

pub loop-event-init : goal.loop-event-init
loop-event-init c =
    let all = group_events c.args.events.items in
    let left = c.into_iter-event-iterator.ensures.into_iter_gives.0 in (
      left,
      search rules,
      subst (λ es. IsReplayed c.args.n c.args.nodes.now all [] es c.in_ok-world.world)
          (sym (ap group_events left))
          (replay_begins c.args.n c.args.nodes.now all c.in_ok-world.world c.in_ok-world.ensures
          c.requires.runs),
    )

pub loop-event-preserved : goal.loop-event-preserved
loop-event-preserved c =
    let at = c.loop-event in
    let e = c.in-Some.ensures.steps in
    let n = c.args.n in
    let nodes = c.args.nodes.now in
    let all = group_events c.args.events.items in
    let left = group_events (into_iter_items c.next.new.self) in (
      one_more _ _ _ _ c.in-Some.event at.invariant.0 e.0,
      (let was = at.invariant.1 in
          let gone = e.1 in
          let short = ap length e.0 in
          omega arith),
      subst (λ done. IsReplayed n nodes all done left c.play.new.world)
          (sym (map-append group_event at.yielded (c.in-Some.event ∷ [])))
          (replay_next n nodes all (group_events at.yielded) _ left (group_event c.in-Some.event)
          at.world c.play.new.world (ap group_events e.0) c.in_ok-play.ensures at.invariant.2),
    )

pub returns-clause-last : goal.returns-clause-last
returns-clause-last c =
    let at = c.loop-event in
    let none = nil_from_length _ (sym at.invariant.1 ∙ c.in-None.ensures.steps.0) in
    replay_ends c.args.n c.args.nodes.now (group_events c.args.events.items)
    (group_events at.yielded) _ at.world (ap group_events none) at.invariant.2
