-- How often a message is put, where a word decides and where none does.
use Rattle.std.proofs.Common.{◌≡◌, ℕ, arith}
use Rattle.std.specs.Prelude.{Option}
use Rattle.lossy_net.specs.declared.message_fate.MessageFate.{MessageFate}
use Rattle.lossy_net.specs.declared.message_fate.MessageFate.TheVariants as fates
use Rattle.lossy_net.specs.Fates.{HasFate, IsPutSoOften, times_of}
use Rattle.cells.specs.Cells.{EnvelopeView}
use Rattle.group_threads.specs.Inner.Posting.{ArePut, ArePutByParts, MayBePutSoOften}

pub by_word : (word drop repeat times : ℕ) → IsPutSoOften word drop repeat times → MayBePutSoOften drop repeat times
by_word word drop repeat times so = (word, so)

once : (drop repeat times : ℕ) → drop ≡ 0 → repeat ≡ 0 → times ≡ 1 → (fate : MessageFate) → HasFate 0 drop repeat fate → times ≡ times_of fate
once drop repeat times none nor is fates.Lose has = absurd (omega arith)
once drop repeat times none nor is fates.Repeat has = let h = has.1 in absurd (omega arith)
once drop repeat times none nor is fates.Once has = is

pub no_word : (drop repeat times : ℕ) → drop ≡ 0 → repeat ≡ 0 → times ≡ 1 → MayBePutSoOften drop repeat times
no_word drop repeat times none nor is = (0, once drop repeat times none nor is)

pub by_parts : (drop repeat times : ℕ) (e : EnvelopeView) (first second : Option EnvelopeView) → MayBePutSoOften drop repeat times → ArePut times e first second → ArePutByParts drop repeat e first second
by_parts drop repeat times e first second may are = (times, may, are)
