use Rattle.std.proofs.Common.{sym, ◌∙◌}
use Rattle.rows.specs.declared.refusal.Refusal.TheVariants as refusals
use Rattle.group_model.specs.Worlds.{Deliver}
use Rattle.group_inputs.specs.Events.{position_of}
use Rattle.world.proofs.GroupSleeping.{refused_at_once, client_within, client_receiver_absent, client_receiver_sleeps, client_receiver_awake}
use Rattle.world.proofs.group.world.World.to_client.Goals as goal

pub returns-in_default : goal.returns-in_default
returns-in_default c =
    refused_at_once c.args.self.now (Deliver (position_of c.args.k)) refusals.OutOfRange (λ e. cc)
    (client_receiver_absent c.args.self.now (position_of c.args.k) c.args.me c.requires (sym c.in_default.ensures))

pub returns-then-not-is_up : goal.returns-then-not-is_up
returns-then-not-is_up c =
    refused_at_once c.args.self.now (Deliver (position_of c.args.k)) refusals.Down (λ e. cc)
    (client_receiver_sleeps c.args.self.now (position_of c.args.k) c.args.me c.requires c.in-Some.client.now (sym c.in-Some.ensures) (sym c.if-not-is_up.ensures))

pub deliver_to_client-requires-clause-member : goal.deliver_to_client-requires-clause-member
deliver_to_client-requires-clause-member c = client_within c.args.self.now.clients c.args.me c.in-Some.client.now (sym c.in-Some.ensures)

pub deliver_to_client-requires-clause-awake : goal.deliver_to_client-requires-clause-awake
deliver_to_client-requires-clause-awake c =
    client_receiver_awake c.args.self.now (position_of c.args.k) c.args.me c.requires c.in-Some.client.now (sym c.in-Some.ensures) (sym c.is_up.ensures ∙ c.if-not-is_up.false)
