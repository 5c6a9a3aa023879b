-- What runs on a node, beside what the node has; and lists of ids without doubles.
use Rattle.std.specs.Prelude.{T, Bool, true, ◌≡◌, not, ◌&&◌, List, [], ◌∷◌}
use Rattle.std.specs.List.{list_any}
use Rattle.rows.specs.declared.size.Size.{Size}
use Rattle.rows.specs.Sizes.{total, fits}
use Rattle.rows.specs.declared.allocation.AllocId.{AllocId}
use Rattle.fsm_model.specs.Words.{same_alloc}
use Rattle.group_model.specs.Agents.{Running}

-- all of them together take no more than a node of this size has
abbrev pub FitTogether : Size → List Running → Type 0
FitTogether whole running = T (fits (total (λ (r : Running). r.size) running) whole)

abbrev pub have_distinct_ids : List AllocId → Bool
have_distinct_ids [] = true
have_distinct_ids (id ∷ ids) = not (list_any (same_alloc id) ids) && have_distinct_ids ids

-- no id stands there twice
abbrev pub AreDistinct : List AllocId → Type 0
AreDistinct ids = have_distinct_ids ids ≡ true
