-- The groups of a job.
use Rattle.std.specs.Prelude.{◌≤◌, ◌≡◌, Bool, true, not, List, [], length, bytes_eq, ℕ}
use Rattle.std.specs.List.{list_any}
use Rattle.rows.specs.declared.job.Group.{Group}
use Rattle.rows.specs.Rising.{keeps}

-- no group in front has the name
abbrev pub is_new_name : List Group → List ℕ → Bool
is_new_name front name = not (list_any (λ g. bytes_eq g.name name) front)

abbrev pub group_is_new : List Group → Group → Bool
group_is_new front g = is_new_name front g.name

-- 1 to 8, with distinct names
abbrev pub AreGroups : List Group → Type 0
AreGroups gs = (1 ≤ length gs) × (length gs ≤ 8) × (keeps group_is_new [] gs ≡ true)
