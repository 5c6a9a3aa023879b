use Rattle.std.proofs.Common.{arith}
use Rattle.world.proofs.Sleeping.{awake_role}
use Rattle.sim_draw.proofs.record.Face.of_server.Goals as goal

pub returns-in_default : goal.returns-in_default
returns-in_default c =
    let up = c.applied.ensures.shown in
    let role = c.role.ensures.shown in
    grind (arith, up, role, awake_role)

pub returns-in_default-2 : goal.returns-in_default-2
returns-in_default-2 c = grind (arith, c.term.ensures.shown, c.role.ensures.shown)

pub returns : goal.returns
returns c = grind (arith, c.term.ensures.shown, c.role.ensures.shown, c.applied.ensures.shown)
