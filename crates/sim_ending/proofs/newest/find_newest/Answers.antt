use Rattle.sim_ending.proofs.Places.{found_more, within_more}
use Rattle.sim_ending.proofs.newest.find_newest.Goals as goal

pub loop-place-preserved : goal.loop-place-preserved
loop-place-preserved c =
    let place = c.loop-place.place in
    let was = c.loop-place.invariant in
    record {
      found = found_more c.args.world.now.servers place c.server_at.result.now c.server_at.ensures c.loop-place.found c.applied.result c.newer-found.result was.found c.applied.ensures.value c.newer-found.ensures;
      within = within_more c.loop-place.found place c.applied.result c.newer-found.result was.within c.newer-found.ensures;
    }
