use Rattle.std.proofs.Common.{arith}
use Rattle.wire.proofs.Buffers.{before}
use Rattle.wire.proofs.frames.start_of.Goals as goal

pub returns-else-at-eq0 : goal.returns-else-at-eq0
returns-else-at-eq0 c = before 0 c.args.ends.now c.args.at _ (omega arith) (omega arith)
