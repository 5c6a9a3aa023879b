use Rattle.std.proofs.Common.{List, take}
use Rattle.journal.specs.Events.{IoEvent}
use Rattle.server_node.specs.Answers.{Settles}
use Rattle.server_node.specs.Inner.Going.{Puts}
use Rattle.server_node.proofs.settling.settle.Given as goal

-- those so far
abbrev pub invariant-loop-ticket : goal.invariant-loop-ticket
invariant-loop-ticket l =
    (told : List IoEvent) × Settles l.server (take l.ticket-index l.asked) told l.unsettled.items
    × Puts l.fn.answers.items l.answers.items told
