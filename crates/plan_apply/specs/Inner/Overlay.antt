-- What is kept of a plan so far, and the places of one node.
use Rattle.std.specs.Prelude.{List, [], map, filter_map, Option, Some, None, is_some, if◌then◌else◌}
use Rattle.std.specs.List.{list_all}
use Rattle.rows.specs.declared.job.Job.{Job}
use Rattle.rows.specs.declared.node.Node.{Node}
use Rattle.rows.specs.declared.allocation.AllocId.{AllocId}
use Rattle.rows.specs.declared.allocation.Allocation.{Allocation}
use Rattle.rows.specs.declared.plan.Place.{Place}
use Rattle.rows.specs.declared.command.AcceptedPlace.{AcceptedPlace}
use Rattle.rows.specs.Keys.{alloc_id}
use Rattle.group_model.specs.Acceptance.{Accepted, sized_on}
use Rattle.plan_apply.specs.declared.accepted.Kept.{Kept}

-- the rows that stop, and what is kept so far
abbrev pub kept_so_far : List Allocation → Kept → Accepted
kept_so_far rows k = record { stops = map alloc_id rows; places = k.places; refused = k.refused }

-- the places with their groups' sizes, where the node takes each of them
abbrev pub all_sized : Job → Node → List Place → Option (List AcceptedPlace)
all_sized j n ks =
    if list_all (λ k. is_some (sized_on j n k)) ks
    then Some (filter_map (sized_on j n) ks)
    else None

-- the stops that are kept, and no place yet
abbrev pub stops_alone : List AllocId → Accepted
stops_alone ids = record { stops = ids; places = []; refused = [] }
