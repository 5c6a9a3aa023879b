use Rattle.group_model.proofs.WorkedPlans.{replaced, stays, all_stops, nothing_there, apart, together, smaller_first, disk_for_one, disk_for_two, fits_once, nothing_more}
use Rattle.group_model.proofs.worked.worked_scheduling.Goals as goal

pub returns : goal.returns
returns g = record {
  replaced = replaced;
  stays = stays;
  all_stops = all_stops;
  nothing_there = nothing_there;
  apart = apart;
  together = together;
  smaller_first = smaller_first;
  disk_for_one = disk_for_one;
  disk_for_two = disk_for_two;
  fits_once = fits_once;
  nothing_more = nothing_more;
}
