-- What is left of a node beside what runs there.
use Rattle.std.specs.Prelude.{◌≡◌, ℕ, ◌+◌, List, sum_by}
use Rattle.rows.specs.declared.size.Size.{Size}
use Rattle.rows.specs.Sizes.{Part, amount}
use Rattle.group_model.specs.Agents.{Running}

-- what runs takes so much of a part
abbrev pub runs_with : List Running → Part → ℕ
runs_with running p = sum_by (λ (r : Running). amount p r.size) running

-- this is left of a node of this size beside what runs there
abbrev pub IsLeftBeside : Size → List Running → Size → Type 0
IsLeftBeside whole running left = (p : Part) → runs_with running p + amount p left ≡ amount p whole
