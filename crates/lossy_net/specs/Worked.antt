-- Worked fates; and worked words, from an implementation that was written from Bernstein's paper.
use Rattle.std.specs.Prelude.{◌≡◌}
use Rattle.lossy_net.specs.declared.message_fate.MessageFate.TheVariants as fates
use Rattle.lossy_net.specs.Fates.{HasFate}
use Rattle.lossy_net.specs.Words.{nth_word}

-- 30 percent are lost, 10 repeated
abbrev pub BelowDrop : Type 0
BelowDrop = HasFate 129 30 10 fates.Lose

abbrev pub AtDrop : Type 0
AtDrop = HasFate 130 30 10 fates.Repeat

abbrev pub AtSum : Type 0
AtSum = HasFate 140 30 10 fates.Once

abbrev pub NoneLost : Type 0
NoneLost = HasFate 0 0 0 fates.Once

abbrev pub AllLost : Type 0
AllLost = HasFate 99 100 0 fates.Lose

-- the sum is 315
abbrev pub PastHundred : Type 0
PastHundred = HasFate 99 60 255 fates.Repeat

-- the zero key, whose first words are published
abbrev pub FirstWord : Type 0
FirstWord = nth_word 0 0 ≡ 0x2fef003e

abbrev pub SecondWord : Type 0
SecondWord = nth_word 0 1 ≡ 0xd6405f89

-- the first word of the second block
abbrev pub NextBlock : Type 0
NextBlock = nth_word 0 16 ≡ 0x0dfaaed2

-- bytes 0, 0, 0, 0, 0, 0, 1 and 2
abbrev pub OtherKey : Type 0
OtherKey = nth_word 258 0 ≡ 0x00b339ec

-- eight bytes of 255; the last word of the first block
abbrev pub GreatestKey : Type 0
GreatestKey = nth_word 18446744073709551615 15 ≡ 0x92f19118
