use Rattle.rows.specs.declared.refusal.Refusal.TheVariants as refusals
use Rattle.group_model.specs.Worlds.{Deliver}
use Rattle.group_inputs.specs.Events.{position_of}
use Rattle.world.proofs.GroupSleeping.{refused_at_once, nothing_comes}
use Rattle.world.proofs.group.world.World.deliver.Goals as goal

pub returns-in_default : goal.returns-in_default
returns-in_default c =
    refused_at_once c.args.self.now (Deliver (position_of c.args.k)) refusals.OutOfRange (λ e. cc)
    (nothing_comes c.args.self.now (position_of c.args.k) c.in_default.ensures.none)
