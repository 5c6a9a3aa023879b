use Rattle.sim_args.proofs.Numerals.{reads_numbers}
use Rattle.sim_args.proofs.numbers.number_of.Goals as goal

pub returns : goal.returns
returns c = reads_numbers c.args.word.now c.read_number.result c.read_number.ensures.named c.read_number.ensures.read
