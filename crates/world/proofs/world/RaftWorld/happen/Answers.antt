use Rattle.std.proofs.Common.{◌≡◌, ◌⊎◌, inl, inr, true, not, is_some, sym, ap, ◌∙◌}
use Rattle.raft_safety.proofs.Places.{get-within}
use Rattle.world.specs.Events.{world_event}
use Rattle.world.specs.Inner.Inputs.{is_restart}
use Rattle.world.proofs.Same.{same_world}
use Rattle.world.proofs.Sleeping.{refuses_absent, refuses_sleeping, is_awake}
use Rattle.world.proofs.world.RaftWorld.happen.Goals as goal
use Rattle.world.proofs.world.RaftWorld.happen.Goals.{else-is_none-via-then-is_none+else-not-is_restart, else-is_none-via-else-is_none}

pub returns-in_default-clause-err : goal.returns-in_default-clause-err
returns-in_default-clause-err g c = same_world c.args.self.now

pub returns-in_default-raft-clause-err : goal.returns-in_default-raft-clause-err
returns-in_default-raft-clause-err g c = same_world c.args.self.now

pub returns-in_default-raft-clause-cause : goal.returns-in_default-raft-clause-cause
returns-in_default-raft-clause-cause g c _ =
    let acts = rw c.sent.ensures at c.in-Some.ensures.some in
    refuses_absent g.M.Machine.spec c.args.self.now (world_event c.args.event) c.in-Some.server acts (sym c.in_default-raft.ensures)

pub returns-then-not-is_restart-clause-err : goal.returns-then-not-is_restart-clause-err
returns-then-not-is_restart-clause-err g c = same_world c.args.self.now

pub returns-then-not-is_restart-clause-cause : goal.returns-then-not-is_restart-clause-cause
returns-then-not-is_restart-clause-cause g c _ =
    let acts = rw c.sent.ensures at c.in-Some.ensures.some in
    refuses_sleeping g.M.Machine.spec c.args.self.now (world_event c.args.event) c.in-Some.server acts c.in-Some-raft.raft.now c.role.result (sym c.in-Some-raft.ensures) c.role.ensures.value c.if-is_none.ensures (sym c.if-not-is_restart.ensures)

pub hand_event-requires-clause-actor : goal.hand_event-requires-clause-actor
hand_event-requires-clause-actor g c = rw c.sent.ensures at c.in-Some.ensures.some

pub hand_event-requires-clause-member : goal.hand_event-requires-clause-member
hand_event-requires-clause-member g c = get-within c.args.self.now.servers c.in-Some.server c.in-Some-raft.raft.now (sym c.in-Some-raft.ensures)

pub hand_event-requires-clause-awake : goal.hand_event-requires-clause-awake
hand_event-requires-clause-awake g c =
    let acts = rw c.sent.ensures at c.in-Some.ensures.some in
    let up : (is_some c.role.result ≡ true) ⊎ (is_restart (world_event c.args.event) ≡ true) = elim c.else-is_none.branch [
      | else-is_none-via-then-is_none+else-not-is_restart w ↦ inr (sym w.is_restart.ensures ∙ w.if-not-is_restart.false)
      | else-is_none-via-else-is_none w ↦ inl (c.is_none.ensures ∙ ap not w.if-is_none.false)
    ] in
    is_awake g.M.Machine.spec c.args.self.now (world_event c.args.event) c.in-Some.server acts c.in-Some-raft.raft.now c.role.result (sym c.in-Some-raft.ensures) c.role.ensures.value g.met.M.Machine.lawful up
