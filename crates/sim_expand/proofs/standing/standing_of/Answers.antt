use Rattle.std.proofs.Common.{◌∙◌, ◌<◌, length, ap, arith, subst}
use Rattle.std.specs.Prelude.{nat_lt}
use Rattle.std.specs.List.{flat_map}
use Rattle.rows.specs.GroupSizes.{IsGroup}
use Rattle.sim_expand.specs.Inner.GroupStandings.{running_at}
use Rattle.sim_expand.proofs.GroupStandings.{stands_more, none_left_out}
use Rattle.sim_expand.proofs.standing.standing_of.Goals as goal
use Rattle.sim_expand.proofs.standing.standing_of.Goals.{in-Some+in_ok-push, in_default}

pub loop-position-preserved : goal.loop-position-preserved
loop-position-preserved c =
    let play = c.args.play.now in
    let lt : c.loop-position.position < length play.world.servers = omega (arith, c.loop-position-test.true, c.size-position-end.ensures.value) in
    let group : IsGroup (length play.world.servers) = subst IsGroup c.size-position-end.ensures.value c.size-position-end.ensures.group in
    elim c.match-standing_at.branch [
      | in-Some+in_ok-push w ↦
          let more =
          stands_more play c.loop-position.position c.loop-position.servers.items c.match-standing_at.servers.items w.in-Some.own c.loop-position.invariant.count
          c.loop-position.invariant.each w.in-Some.ensures.some (ap (λ v. v.items) w.servers-is ∙ w.in_ok-push.ensures.items) in
          record { count = more.0; each = more.1 }
      | in_default w ↦ none_left_out play c.loop-position.position group lt w.in_default.ensures.none
    ]

pub returns : goal.returns
returns c = record {
  count = omega (arith, c.loop-position.invariant.count, c.loop-position.auto.position-end, c.loop-position-test.false, c.size-position-end.ensures.value);
  each = c.loop-position.invariant.each;
  running = c.in_ok-running.ensures ∙ ap (flat_map running_at) c.clients.ensures.clients;
  in_flight = ap (nat_lt 0) c.len.ensures;
}
