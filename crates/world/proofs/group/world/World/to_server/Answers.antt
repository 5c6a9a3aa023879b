use Rattle.std.proofs.Common.{not, sym, ap, ◌∙◌}
use Rattle.rows.specs.declared.refusal.Refusal.TheVariants as refusals
use Rattle.raft_safety.proofs.Places.{get-within}
use Rattle.group_model.specs.Worlds.{Deliver}
use Rattle.group_inputs.specs.Events.{position_of}
use Rattle.world.proofs.GroupSleeping.{refused_at_once, receiver_absent, receiver_sleeps, receiver_awake}
use Rattle.world.proofs.group.world.World.to_server.Goals as goal

pub returns-in_default : goal.returns-in_default
returns-in_default c =
    refused_at_once c.args.self.now (Deliver (position_of c.args.k)) refusals.OutOfRange (λ e. cc)
    (receiver_absent c.args.self.now (position_of c.args.k) c.args.me c.requires (sym c.in_default.ensures))

pub returns-then-is_none : goal.returns-then-is_none
returns-then-is_none c =
    refused_at_once c.args.self.now (Deliver (position_of c.args.k)) refusals.Down (λ e. cc)
    (receiver_sleeps c.args.self.now (position_of c.args.k) c.args.me c.requires c.in-Some.server.now c.role.result (sym c.in-Some.ensures) c.role.ensures.value c.if-is_none.ensures)

pub deliver_to_server-requires-clause-member : goal.deliver_to_server-requires-clause-member
deliver_to_server-requires-clause-member c = get-within c.args.self.now.servers c.args.me c.in-Some.server.now (sym c.in-Some.ensures)

pub deliver_to_server-requires-clause-awake : goal.deliver_to_server-requires-clause-awake
deliver_to_server-requires-clause-awake c =
    receiver_awake c.args.self.now (position_of c.args.k) c.args.me c.requires c.in-Some.server.now c.role.result (sym c.in-Some.ensures) c.role.ensures.value (c.is_none.ensures ∙ ap not c.if-is_none.false)
