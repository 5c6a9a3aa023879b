-- What was ever started, with what runs.
use Rattle.std.specs.Prelude.{◌≡◌, List, ◌++◌, filter}
use Rattle.rows.specs.declared.size.Size.{Size}
use Rattle.rows.specs.declared.allocation.AllocId.{AllocId}
use Rattle.rows.specs.declared.listing.ListedAllocation.{ListedAllocation}
use Rattle.group_model.specs.Agents.{Running, Life, Started, starts, is_shown}

abbrev pub runs_of : List AllocId → List Running → Started
runs_of ids running = record { ids = ids; running = running }

-- more ids may stand behind the old ones, and nothing else changed
abbrev pub MoreIds : List AllocId → List AllocId → Type 0
MoreIds old new = (more : List AllocId) × (new ≡ old ++ more)

-- by these rows, on a node of this size
abbrev pub followed : Size → List ListedAllocation → List AllocId → Life → Started
followed whole rows ids l = starts whole rows (runs_of ids (filter (λ (r : Running). is_shown rows r.id) l.running))
