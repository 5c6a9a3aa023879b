use Rattle.std.proofs.Common.{◌<◌, length, refl, arith}
use Rattle.std.proofs.lemmas.Option.{slice_get_read}
use Rattle.server.specs.ServerViews.{RefinesServer}
use Rattle.world.specs.Inner.Room.{ServerHasRoom}
use Rattle.world.proofs.Rooms.{first_none, one_more, each_has}
use Rattle.world.proofs.room.servers_have_room.Goals as goal

pub loop-server-init : goal.loop-server-init
loop-server-init c = first_none RefinesServer ServerHasRoom c.args.servers.now

pub loop-server-preserved : goal.loop-server-preserved
loop-server-preserved c =
    let servers = c.args.servers.now in
    let inside : c.loop-server.server-index < length c.args.servers.now = omega arith in
    one_more RefinesServer ServerHasRoom servers c.loop-server.server-index c.server-item.result
    (slice_get_read servers (length servers) c.loop-server.server-index c.server-item.result refl inside c.server-item.is) c.if-not-server_has_room.ensures c.loop-server.invariant

pub returns-then-not-server_has_room : goal.returns-then-not-server_has_room
returns-then-not-server_has_room c =
    let servers = c.args.servers.now in
    let inside : c.loop-server.server-index < length c.args.servers.now = omega arith in
    record {
      place = c.loop-server.server-index;
      item = c.server-item.result;
      at = slice_get_read servers (length servers) c.loop-server.server-index c.server-item.result refl inside c.server-item.is;
      lacks = c.if-not-server_has_room.ensures;
    }

pub returns : goal.returns
returns c = each_has RefinesServer ServerHasRoom c.args.servers.now c.loop-server.server-index (λ l. omega arith) c.loop-server.invariant
