-- How the worked plans are made: the parts that they go through.
use Rattle.std.proofs.Common.{List, [], ◌∷◌, refl, inl, inr}
use Rattle.rows.specs.declared.allocation.AllocId.{AllocId}
use Rattle.rows.specs.declared.command.AcceptedPlace.{AcceptedPlace}
use Rattle.fsm_model.specs.Worked.Words.{size, size_with_disk, alloc_id, place, node_row}
use Rattle.group_model.specs.Scheduling.{PlanPart}
use Rattle.group_model.specs.Worked.Scheduling.{Replaced, StaysAsItIs, AllStops, NothingThere, Apart, Together, SmallerFirst, DiskForOne, DiskForTwo, FitsOnce, NothingMore}

abbrev part : List AllocId → List AcceptedPlace → PlanPart
part stops places = record { stops = stops; places = places }

-- both stop
pub replaced : Replaced
replaced = record {
  whole = part (alloc_id 5 1 ∷ alloc_id 5 0 ∷ []) (place 0 1 (size 700 300) ∷ []);
  goes_on = inr (refl, (part (alloc_id 5 1 ∷ alloc_id 5 0 ∷ []) (place 0 1 (size 700 300) ∷ []), inr (node_row 1 (size 1000 1000) 2, record { there = refl; fits = refl; best = refl }, refl), refl));
  stops = refl;
  places = refl;
  version = refl;
  snapshot = refl;
  all_placed = refl;
}

-- one stops
pub stays : StaysAsItIs
stays = record {
  whole = part (alloc_id 5 1 ∷ []) [];
  goes_on = inr (refl, (part (alloc_id 5 1 ∷ []) [], inl (refl, refl), refl));
  stops = refl;
  places = refl;
  version = refl;
  snapshot = refl;
  all_placed = refl;
}

-- no name is wanted
pub all_stops : AllStops
all_stops = record {
  whole = part (alloc_id 5 0 ∷ alloc_id 5 1 ∷ []) [];
  goes_on = refl;
  stops = refl;
  places = refl;
  version = refl;
  snapshot = refl;
  all_placed = refl;
}

-- nor of no job
pub nothing_there : NothingThere
nothing_there = record {
  whole = part [] [];
  goes_on = refl;
  stops = refl;
  places = refl;
  version = refl;
  snapshot = refl;
  all_placed = refl;
}

-- two places
pub apart : Apart
apart = record {
  whole = part [] (place 0 1 (size 600 300) ∷ place 1 2 (size 600 300) ∷ []);
  goes_on = inr (refl, (part [] (place 0 1 (size 600 300) ∷ []), inr (node_row 1 (size 1000 1000) 2, record { there = refl; fits = refl; best = refl }, refl), inr (refl, (part [] (place 0 1 (size 600 300) ∷ place 1 2 (size 600 300) ∷ []), inr (node_row 2 (size 1000 1000) 3, record { there = refl; fits = refl; best = refl }, refl), refl))));
  stops = refl;
  places = refl;
  version = refl;
  snapshot = refl;
  all_placed = refl;
}

-- on one node
pub together : Together
together = record {
  whole = part [] (place 0 1 (size 400 300) ∷ place 1 1 (size 400 300) ∷ []);
  goes_on = inr (refl, (part [] (place 0 1 (size 400 300) ∷ []), inr (node_row 1 (size 1000 1000) 2, record { there = refl; fits = refl; best = refl }, refl), inr (refl, (part [] (place 0 1 (size 400 300) ∷ place 1 1 (size 400 300) ∷ []), inr (node_row 1 (size 1000 1000) 2, record { there = refl; fits = refl; best = refl }, refl), refl))));
  stops = refl;
  places = refl;
  version = refl;
  snapshot = refl;
  all_placed = refl;
}

-- on the smaller node, and then on the other
pub smaller_first : SmallerFirst
smaller_first = record {
  whole = part [] (place 0 2 (size 600 300) ∷ place 1 1 (size 600 300) ∷ []);
  goes_on = inr (refl, (part [] (place 0 2 (size 600 300) ∷ []), inr (node_row 2 (size 1000 1000) 3, record { there = refl; fits = refl; best = refl }, refl), inr (refl, (part [] (place 0 2 (size 600 300) ∷ place 1 1 (size 600 300) ∷ []), inr (node_row 1 (size 1200 1000) 2, record { there = refl; fits = refl; best = refl }, refl), refl))));
  stops = refl;
  places = refl;
  version = refl;
  snapshot = refl;
  all_placed = refl;
}

-- the first alone, for want of disk
pub disk_for_one : DiskForOne
disk_for_one = record {
  whole = part [] (place 0 1 (size_with_disk 100 100 60) ∷ []);
  goes_on = inr (refl, (part [] (place 0 1 (size_with_disk 100 100 60) ∷ []), inr (node_row 1 (size_with_disk 1000 1000 100) 2, record { there = refl; fits = refl; best = refl }, refl), inr (refl, (part [] (place 0 1 (size_with_disk 100 100 60) ∷ []), inl (refl, refl), refl))));
  stops = refl;
  places = refl;
  version = refl;
  snapshot = refl;
  all_placed = refl;
}

-- both
pub disk_for_two : DiskForTwo
disk_for_two = record {
  whole = part [] (place 0 1 (size_with_disk 100 100 50) ∷ place 1 1 (size_with_disk 100 100 50) ∷ []);
  goes_on = inr (refl, (part [] (place 0 1 (size_with_disk 100 100 50) ∷ []), inr (node_row 1 (size_with_disk 1000 1000 100) 2, record { there = refl; fits = refl; best = refl }, refl), inr (refl, (part [] (place 0 1 (size_with_disk 100 100 50) ∷ place 1 1 (size_with_disk 100 100 50) ∷ []), inr (node_row 1 (size_with_disk 1000 1000 100) 2, record { there = refl; fits = refl; best = refl }, refl), refl))));
  stops = refl;
  places = refl;
  version = refl;
  snapshot = refl;
  all_placed = refl;
}

-- the one, and not the other
pub fits_once : FitsOnce
fits_once = record {
  whole = part [] (place 0 1 (size 600 300) ∷ []);
  goes_on = inr (refl, (part [] (place 0 1 (size 600 300) ∷ []), inr (node_row 1 (size 1000 1000) 2, record { there = refl; fits = refl; best = refl }, refl), inr (refl, (part [] (place 0 1 (size 600 300) ∷ []), inl (refl, refl), refl))));
  stops = refl;
  places = refl;
  version = refl;
  snapshot = refl;
  all_placed = refl;
}

-- one is missing
pub nothing_more : NothingMore
nothing_more = record {
  whole = part [] [];
  goes_on = inr (refl, (part [] [], inl (refl, refl), refl));
  stops = refl;
  places = refl;
  version = refl;
  snapshot = refl;
  all_placed = refl;
}
