use Rattle.std.proofs.Common.{◌≡◌, ◌⊎◌, inl, inr, true, is_some, sym, ◌∙◌}
use Rattle.rows.specs.declared.refusal.Refusal.TheVariants as refusals
use Rattle.group_model.specs.Worlds.{AtClient}
use Rattle.actor.specs.Handed.{restarts_client}
use Rattle.group_inputs.specs.Events.{client_input}
use Rattle.world.proofs.GroupSleeping.{refused_at_once, client_within, client_absent, client_sleeps, response_is_none, client_awake}
use Rattle.world.proofs.group.world.World.at_client.Goals as goal
use Rattle.world.proofs.group.world.World.at_client.Goals.{else-not-is_up-via-then-not-is_up+else-not-is_client_restart, else-not-is_up-via-else-not-is_up}

pub returns-in_default : goal.returns-in_default
returns-in_default c =
    refused_at_once c.args.self.now (AtClient c.args.me (client_input c.args.input.value)) refusals.OutOfRange (λ e. cc)
    (client_absent c.args.self.now c.args.me c.args.input.value (sym c.in_default.ensures))

pub returns-then-not-is_client_restart : goal.returns-then-not-is_client_restart
returns-then-not-is_client_restart c =
    refused_at_once c.args.self.now (AtClient c.args.me (client_input c.args.input.value)) refusals.Down (λ e. cc)
    (client_sleeps c.args.self.now c.args.me c.in-Some.client.now (sym c.in-Some.ensures) c.args.input.value (sym c.if-not-is_up.ensures) (rw c.as_ref-given.ensures at (sym c.if-not-is_client_restart.ensures)))

pub returns-then-is_client_frame : goal.returns-then-is_client_frame
returns-then-is_client_frame c =
    let up : (is_some c.in-Some.client.now.client.life ≡ true) ⊎ (restarts_client c.args.input.value ≡ true) = elim c.else-not-is_up.branch [
      | else-not-is_up-via-then-not-is_up+else-not-is_client_restart w ↦ inr (rw c.as_ref-given.ensures at (sym w.is_client_restart.ensures ∙ w.if-not-is_client_restart.false))
      | else-not-is_up-via-else-not-is_up w ↦ inl (sym c.is_up.ensures ∙ w.if-not-is_up.false)
    ] in
    refused_at_once c.args.self.now (AtClient c.args.me (client_input c.args.input.value)) refusals.OutOfRange (λ e. cc)
    (response_is_none c.args.self.now c.args.me c.in-Some.client.now (sym c.in-Some.ensures) c.args.input.value (rw c.as_ref-given.ensures at (sym c.is_client_frame.ensures ∙ c.if-is_client_frame.true)) up)

pub hand_client-requires-clause-member : goal.hand_client-requires-clause-member
hand_client-requires-clause-member c = client_within c.args.self.now.clients c.args.me c.in-Some.client.now (sym c.in-Some.ensures)

pub hand_client-requires-clause-awake : goal.hand_client-requires-clause-awake
hand_client-requires-clause-awake c =
    let up : (is_some c.in-Some.client.now.client.life ≡ true) ⊎ (restarts_client c.args.input.value ≡ true) = elim c.else-not-is_up.branch [
      | else-not-is_up-via-then-not-is_up+else-not-is_client_restart w ↦ inr (rw c.as_ref-given.ensures at (sym w.is_client_restart.ensures ∙ w.if-not-is_client_restart.false))
      | else-not-is_up-via-else-not-is_up w ↦ inl (sym c.is_up.ensures ∙ w.if-not-is_up.false)
    ] in
    client_awake c.args.self.now c.args.me c.in-Some.client.now (sym c.in-Some.ensures) c.args.input.value (rw c.as_ref-given.ensures at (sym c.is_client_frame.ensures ∙ c.if-is_client_frame.false)) up
