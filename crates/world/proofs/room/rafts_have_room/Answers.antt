use Rattle.std.proofs.Common.{◌<◌, length, refl, arith}
use Rattle.std.proofs.lemmas.Option.{slice_get_read}
use Rattle.raft_core.specs.Steps.{RefinesRaft}
use Rattle.world.specs.Inner.Room.{RaftHasRoom}
use Rattle.world.proofs.Rooms.{first_none, one_more, each_has}
use Rattle.world.proofs.room.rafts_have_room.Goals as goal

pub loop-raft-init : goal.loop-raft-init
loop-raft-init g c = first_none (RefinesRaft g.M.Machine.spec) RaftHasRoom c.args.rafts.now

pub loop-raft-preserved : goal.loop-raft-preserved
loop-raft-preserved g c =
    let rafts = c.args.rafts.now in
    let inside : c.loop-raft.raft-index < length c.args.rafts.now = omega arith in
    one_more (RefinesRaft g.M.Machine.spec) RaftHasRoom rafts c.loop-raft.raft-index c.raft-item.result
    (slice_get_read rafts (length rafts) c.loop-raft.raft-index c.raft-item.result refl inside c.raft-item.is) c.if-not-raft_has_room.ensures c.loop-raft.invariant

pub returns-then-not-raft_has_room : goal.returns-then-not-raft_has_room
returns-then-not-raft_has_room g c =
    let rafts = c.args.rafts.now in
    let inside : c.loop-raft.raft-index < length c.args.rafts.now = omega arith in
    record {
      place = c.loop-raft.raft-index;
      item = c.raft-item.result;
      at = slice_get_read rafts (length rafts) c.loop-raft.raft-index c.raft-item.result refl inside c.raft-item.is;
      lacks = c.if-not-raft_has_room.ensures;
    }

pub returns : goal.returns
returns g c = each_has (RefinesRaft g.M.Machine.spec) RaftHasRoom c.args.rafts.now c.loop-raft.raft-index (λ l. omega arith) c.loop-raft.invariant
