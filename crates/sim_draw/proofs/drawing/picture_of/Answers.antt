use Rattle.std.proofs.Common.{◌∙◌, length}
use Rattle.std.specs.Prelude.{string_bytes}
use Rattle.sim_draw.proofs.Drawn.{run_drawn}
use Rattle.sim_draw.proofs.drawing.picture_of.Goals as goal

pub returns : goal.returns
returns c =
    let noted = c.take_all.ensures.actors in
    run_drawn string_bytes c.whole.result c.take_all.new.self c.args.servers c.args.clients (length c.args.events.now) c.deref-2.result.now
    (noted.0 ∙ c.new-record.ensures.servers) (noted.1 ∙ c.new-record.ensures.clients) c.in_ok-take_all.ensures.rows (c.deref-2.ensures ∙ c.in_ok-title.ensures) c.whole.ensures
