-- Numbers in a row, as a tree that counts them.
use Rattle.std.specs.Prelude.{◌≡◌, ℕ, Bool, true, ◌&&◌, ◌==◌, List, ◌++◌, length}
use Rattle.sim_play.specs.declared.waiting.Waiting.{Waiting}
use Rattle.sim_play.specs.declared.waiting.Waiting.TheVariants.{Block, Fork'}

-- from left to right
abbrev pub numbers : Waiting → List ℕ
numbers (Block block) = block.items
numbers (Fork' p left count q right span capacity) = numbers left ++ numbers right

abbrev pub is_counted : Waiting → Bool
is_counted (Block block) = true
is_counted (Fork' p left count q right span capacity) =
    count == length (numbers left) && is_counted left && is_counted right

-- each fork counts what stands on its left
abbrev pub IsCounted : Waiting → Type 0
IsCounted tree = is_counted tree ≡ true
