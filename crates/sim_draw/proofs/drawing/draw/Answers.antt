use Rattle.std.proofs.Common.{length, subst, sym}
use Rattle.sim_draw.specs.Pictures.{IsRunPicture}
use Rattle.sim_draw.proofs.drawing.draw.Goals as goal

pub returns-clause-picture : goal.returns-clause-picture
returns-clause-picture g c =
    let drawn_as = IsRunPicture c.args.servers (length c.args.nodes.now) (length c.args.events.now) in
    record {
      text = c.as_str.result.now;
      picture = subst drawn_as (sym c.as_str.ensures.value) c.in_ok-picture.ensures.picture;
      appended = c.in_ok-write_picture.ensures.ok;
    }
