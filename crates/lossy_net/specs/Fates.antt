-- The fate that a word gives a message, by the word's remainder by 100.
use Rattle.std.specs.Prelude.{◌≡◌, ℕ, ◌+◌, ◌%◌, ◌<◌, ◌≤◌}
use Rattle.lossy_net.specs.declared.message_fate.MessageFate.{MessageFate}
use Rattle.lossy_net.specs.declared.message_fate.MessageFate.TheVariants as fates

-- the word, the percentage that is lost, the percentage that is repeated, and the fate
abbrev pub HasFate : ℕ → ℕ → ℕ → MessageFate → Type 0
HasFate word drop repeat fates.Lose = word % 100 < drop
HasFate word drop repeat fates.Repeat = (drop ≤ word % 100) × (word % 100 < drop + repeat)
HasFate word drop repeat fates.Once = drop + repeat ≤ word % 100

-- how often a message of this fate is put on its way
abbrev pub times_of : MessageFate → ℕ
times_of fates.Lose = 0
times_of fates.Once = 1
times_of fates.Repeat = 2

-- a message whose word this is is put so often, by the one fate that the word gives it
abbrev pub IsPutSoOften : ℕ → ℕ → ℕ → ℕ → Type 0
IsPutSoOften word drop repeat times =
    (fate : MessageFate) → HasFate word drop repeat fate → times ≡ times_of fate
