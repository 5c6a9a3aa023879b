use Rattle.std.proofs.Common.{Ok, List, ap, sym, ◌∙◌}
use Rattle.std.specs.Prelude.{find, option_map}
use Rattle.fsm_tables.specs.declared.urgency.Urgency.{Urgency}
use Rattle.leader.specs.OpenDesks.{OpenDesk, on_reap}
use Rattle.leader.specs.Inner.Still.{stands_pending}
use Rattle.leader.proofs.Turning.{reaped_is}
use Rattle.leader.proofs.open_desk.OpenDesk.reap.Goals as goal

pub returns : goal.returns
returns c =
    let projected = c.args.projected.now in
    let first = λ (us : List Urgency). option_map (λ (u : Urgency). u.id) (find (stands_pending projected) us) in
    let found = c.first_pending.ensures ∙ ap first c.failed.ensures ∙ reaped_is projected c.self.inside.broker in
    ap (λ (o : OpenDesk). on_reap projected o) (sym c.self.view_is) ∙ ap Ok (sym found)
