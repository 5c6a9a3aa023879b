use Rattle.std.proofs.Common.{◌∙◌, slice_get, sym, ap}
use Rattle.recovery.proofs.LogDriving.{is_for, is_for_client, is_for_none}
use Rattle.recovery.proofs.log_driven.RaftWorldDriven.addressee.Goals as goal

pub returns-in-Server : goal.returns-in-Server
returns-in-Server g c = is_for g.M.Machine.spec c.args.self.now c.args.place c.in-Server.server c.in-Some.frame (ap (λ l. slice_get l c.args.place) (sym c.sent.ensures) ∙ sym c.in-Some.ensures) (sym c.in-Server.ensures)

pub returns-in-Client : goal.returns-in-Client
returns-in-Client g c = is_for_client g.M.Machine.spec c.args.self.now c.args.place c.in-Client.field-0 c.in-Some.frame (ap (λ l. slice_get l c.args.place) (sym c.sent.ensures) ∙ sym c.in-Some.ensures) (sym c.in-Client.ensures)

pub returns-in-None : goal.returns-in-None
returns-in-None g c = is_for_none g.M.Machine.spec c.args.self.now c.args.place (ap (λ l. slice_get l c.args.place) (sym c.sent.ensures) ∙ sym c.in-None.ensures)
