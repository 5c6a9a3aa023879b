use Rattle.std.proofs.Common.{refl}
use Rattle.rand_core.specs.Steps.{u32_at}
use Rattle.rand_chacha.specs.Block.{block_word, double_rounds, column_round, diagonal_round, quarter_round}
use Rattle.lossy_net.specs.Words.{nth_word}
use Rattle.lossy_net.proofs.worked.worked_words.Goals as goal

pub returns : goal.returns
unfolding nth_word u32_at block_word double_rounds column_round diagonal_round quarter_round
returns c = record {
  first = refl;
  second = refl;
  next_block = refl;
  other_key = refl;
  greatest_key = refl;
}
