use Rattle.std.proofs.Common.{◌≡◌, map, take}
use Rattle.group_model.specs.ClientRequests.{shown}
use Rattle.server.proofs.server.listing.all_shown.Given as goal

abbrev pub invariant-loop-row : goal.invariant-loop-row
invariant-loop-row l = l.all.items ≡ map shown (take l.row-index l.rows)
