use Rattle.std.proofs.Common.{sym}
use Rattle.client_node.proofs.handing.outcome.Goals as goal

pub returns-else-is_memory : goal.returns-else-is_memory
returns-else-is_memory c = (c.in-Err.is, sym c.if-is_memory.ensures)
