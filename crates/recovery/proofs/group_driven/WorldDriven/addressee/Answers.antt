use Rattle.std.proofs.Common.{◌∙◌, slice_get, sym, ap}
use Rattle.recovery.proofs.GroupDriving.{group_is_for, group_is_for_client, group_is_for_none}
use Rattle.recovery.proofs.group_driven.WorldDriven.addressee.Goals as goal

pub returns-in-Server : goal.returns-in-Server
returns-in-Server c = group_is_for c.args.self.now c.args.place c.in-Server.server c.in-Some.frame (ap (λ l. slice_get l c.args.place) (sym c.sent.ensures.value) ∙ sym c.in-Some.ensures) (sym c.in-Server.ensures)

pub returns-in-Client : goal.returns-in-Client
returns-in-Client c = group_is_for_client c.args.self.now c.args.place c.in-Client.field-0 c.in-Some.frame (ap (λ l. slice_get l c.args.place) (sym c.sent.ensures.value) ∙ sym c.in-Some.ensures) (sym c.in-Client.ensures)

pub returns-in-None : goal.returns-in-None
returns-in-None c = group_is_for_none c.args.self.now c.args.place (ap (λ l. slice_get l c.args.place) (sym c.sent.ensures.value) ∙ sym c.in-None.ensures)
