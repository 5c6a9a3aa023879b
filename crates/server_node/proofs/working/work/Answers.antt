use Rattle.server_node.proofs.Passed.{asks_own}
use Rattle.server_node.proofs.working.work.Goals as goal

pub returns-in-Asks : goal.returns-in-Asks
returns-in-Asks c = asks_own _ _ c.in_ok-go_on.field-0 c.in-Asks.input c.in-Asks.is c.in_ok-go_on.ensures.handled
