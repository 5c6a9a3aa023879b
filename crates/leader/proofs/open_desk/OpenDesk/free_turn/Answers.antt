use Rattle.std.proofs.Common.{Ok, ap, sym, ◌∙◌}
use Rattle.std.specs.Prelude.{find}
use Rattle.blocked.specs.Rooms.{blocked_of}
use Rattle.leader.specs.OpenDesks.{OpenDesk, on_free_turn}
use Rattle.leader.specs.Inner.Still.{is_blocked_in}
use Rattle.leader.proofs.Turning.{freed_is}
use Rattle.leader.proofs.open_desk.OpenDesk.free_turn.Goals as goal

pub returns-clause-ok : goal.returns-clause-ok
returns-clause-ok c =
    let projected = c.args.projected.now in
    let found = c.first_blocked.ensures ∙ ap (find (is_blocked_in projected)) (c.as_slice.ensures ∙ c.in_ok-due.ensures.ok) ∙ freed_is projected (blocked_of c.self.inside.blocked) in
    ap (λ (o : OpenDesk). on_free_turn projected o) (sym c.self.view_is) ∙ ap Ok (sym found)
