-- Numbers in a row, as a queue or as a tree that counts them.
use Rattle.std.specs.Prelude.{◌≡◌, ℕ, Bool, true, List}
use Rattle.sim_play.specs.Inner.Waiting.{numbers, is_counted}
use Rattle.sim_play.specs.declared.flight.Line.{Line}
use Rattle.sim_play.specs.declared.flight.Line.TheVariants.{Queue, Tree}

abbrev pub standing : Line → List ℕ
standing (Queue queue) = queue.items
standing (Tree tree) = numbers tree

abbrev pub stand_counted : Line → Bool
stand_counted (Queue queue) = true
stand_counted (Tree tree) = is_counted tree

-- each fork of a tree counts what stands on its left
abbrev pub StandCounted : Line → Type 0
StandCounted line = stand_counted line ≡ true
