-- Lists of a node's live allocations.
use Rattle.std.specs.Prelude.{◌≤◌, ◌≡◌, Bool, true, List, [], length}
use Rattle.rows.specs.declared.allocation.AllocId.{AllocId}
use Rattle.rows.specs.declared.listing.ListedAllocation.{ListedAllocation}
use Rattle.rows.specs.Ids.{alloc_cmp}
use Rattle.rows.specs.Rising.{keeps, is_behind}

abbrev pub listed_id : ListedAllocation → AllocId
listed_id r = r.id

-- its id is above that of the last one
abbrev pub listed_rises : List ListedAllocation → ListedAllocation → Bool
listed_rises front r = is_behind alloc_cmp listed_id front r.id

-- at most 65,536, in strictly rising id
abbrev pub AreListed : List ListedAllocation → Type 0
AreListed rows = (length rows ≤ 65536) × (keeps listed_rises [] rows ≡ true)
