use Rattle.std.proofs.Common.{◌≡◌, ◌⊎◌, inl, inr, true, not, is_some, sym, ap, ◌∙◌}
use Rattle.rows.specs.declared.refusal.Refusal.TheVariants as refusals
use Rattle.raft_safety.proofs.Places.{get-within}
use Rattle.group_model.specs.Worlds.{AtServer}
use Rattle.group_inputs.specs.Handings.{handing}
use Rattle.actor.specs.Handed.{restarts_server}
use Rattle.group_inputs.specs.Events.{server_input}
use Rattle.world.proofs.GroupSleeping.{refused_at_once, server_absent, server_sleeps, frame_is_none, server_awake}
use Rattle.world.proofs.group.world.World.at_server.Goals as goal
use Rattle.world.proofs.group.world.World.at_server.Goals.{else-is_none-via-then-is_none+else-not-is_restart, else-is_none-via-else-is_none}

pub returns-in_default : goal.returns-in_default
returns-in_default c =
    refused_at_once c.args.self.now (AtServer c.args.me (server_input (handing c.args.input.value))) refusals.OutOfRange (λ e. cc)
    (server_absent c.args.self.now c.args.me (handing c.args.input.value) (sym c.in_default.ensures))

pub returns-then-not-is_restart : goal.returns-then-not-is_restart
returns-then-not-is_restart c =
    refused_at_once c.args.self.now (AtServer c.args.me (server_input (handing c.args.input.value))) refusals.Down (λ e. cc)
    (server_sleeps c.args.self.now c.args.me c.in-Some.server.now c.role.result (sym c.in-Some.ensures) c.role.ensures.value (handing c.args.input.value) c.if-is_none.ensures (rw c.as_ref-given.ensures at (sym c.if-not-is_restart.ensures)))

pub returns-then-is_frame : goal.returns-then-is_frame
returns-then-is_frame c =
    let up : (is_some c.role.result ≡ true) ⊎ (restarts_server (handing c.args.input.value) ≡ true) = elim c.else-is_none.branch [
      | else-is_none-via-then-is_none+else-not-is_restart w ↦ inr (rw c.as_ref-given.ensures at (sym w.is_restart.ensures ∙ w.if-not-is_restart.false))
      | else-is_none-via-else-is_none w ↦ inl (c.is_none.ensures ∙ ap not w.if-is_none.false)
    ] in
    refused_at_once c.args.self.now (AtServer c.args.me (server_input (handing c.args.input.value))) refusals.OutOfRange (λ e. cc)
    (frame_is_none c.args.self.now c.args.me c.in-Some.server.now c.role.result (sym c.in-Some.ensures) c.role.ensures.value (handing c.args.input.value) (rw c.as_ref-given.ensures at (sym c.is_frame.ensures ∙ c.if-is_frame.true)) up)

pub hand_server-requires-clause-member : goal.hand_server-requires-clause-member
hand_server-requires-clause-member c = get-within c.args.self.now.servers c.args.me c.in-Some.server.now (sym c.in-Some.ensures)

pub hand_server-requires-clause-awake : goal.hand_server-requires-clause-awake
hand_server-requires-clause-awake c =
    let up : (is_some c.role.result ≡ true) ⊎ (restarts_server (handing c.args.input.value) ≡ true) = elim c.else-is_none.branch [
      | else-is_none-via-then-is_none+else-not-is_restart w ↦ inr (rw c.as_ref-given.ensures at (sym w.is_restart.ensures ∙ w.if-not-is_restart.false))
      | else-is_none-via-else-is_none w ↦ inl (c.is_none.ensures ∙ ap not w.if-is_none.false)
    ] in
    server_awake c.args.self.now c.args.me c.in-Some.server.now c.role.result (sym c.in-Some.ensures) c.role.ensures.value c.args.input.value (rw c.as_ref-given.ensures at (sym c.is_frame.ensures ∙ c.if-is_frame.false)) up
