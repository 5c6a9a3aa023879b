use Rattle.std.proofs.Common.{sym}
use Rattle.group_inputs.specs.Events.{position_of}
use Rattle.world.proofs.Inputs.{gone, received, astray, sent_there}
use Rattle.world.proofs.input.receiver.Goals as goal

pub returns-in_err-frame_at-clause-none : goal.returns-in_err-frame_at-clause-none
returns-in_err-frame_at-clause-none g c = rw c.from_residual.ensures (gone g.M.Machine.spec c.args.sent.now (position_of c.args.k) (sym c.in_err-frame_at.ensures))

pub returns-in-Server-clause-some : goal.returns-in-Server-clause-some
returns-in-Server-clause-some g c = received g.M.Machine.spec c.args.sent.now (position_of c.args.k) c.in_ok-frame_at.field-0 c.in-Server.server (sym c.in_ok-frame_at.ensures) (sym c.in-Server.ensures)

pub returns-in-Client-clause-none : goal.returns-in-Client-clause-none
returns-in-Client-clause-none g c = astray g.M.Machine.spec c.args.sent.now (position_of c.args.k) c.in_ok-frame_at.field-0 c.in-Client.field-0 (sym c.in_ok-frame_at.ensures) (sym c.in-Client.ensures)

pub returns-in-Server-clause-sent : goal.returns-in-Server-clause-sent
returns-in-Server-clause-sent g c = sent_there c.args.sent.now (position_of c.args.k) c.in_ok-frame_at.field-0 (sym c.in_ok-frame_at.ensures)
