use Rattle.std.proofs.Common.{ap, ◌∙◌}
use Rattle.rows.specs.Keys.{name_cmp}
use Rattle.fsm_tables.specs.Rows.{put}
use Rattle.blocked.specs.Rooms.{room_class, room_in}
use Rattle.blocked.proofs.RowByRow.{noted}
use Rattle.blocked.proofs.rooms.Rooms.note.Goals as goal

pub returns-clause-ok : goal.returns-clause-ok
returns-clause-ok c =
    let rows = c.reserve_rows.ensures.rows ∙ c.self.view_is in
    ap room_in c.put.ensures.rows
    ∙ (λ i. room_in (put name_cmp room_class (record { class = c.args.class.now; room = c.with-room.ensures i }) (rows i)))
    ∙ noted c.args.class.now c.args.index c.args.self.now
