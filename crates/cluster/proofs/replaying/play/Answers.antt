use Rattle.group_inputs.specs.Events.{group_event}
use Rattle.cluster.proofs.Replays.{not_refused}
use Rattle.cluster.proofs.replaying.play.Goals as goal

-- the definitions would refuse it too
pub unreachable-requires : goal.unreachable-requires
unreachable-requires c =
    not_refused c.args.world.now (group_event c.args.event) c.in-Err.refusal c.requires
    (c.in-Err.ensures.cause c.in_default.not-NoMemory)
