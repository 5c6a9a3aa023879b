use Rattle.std.proofs.Common.{◌≡◌, ◌++◌, map, take}
use Rattle.std.specs.Prelude.{filter}
use Rattle.journal.specs.Savings.{output_event}
use Rattle.client_node.specs.Turns.{is_not_among, said_of}
use Rattle.client_node.proofs.telling.put_words.Given as goal

-- those so far
abbrev pub invariant-loop-id : goal.invariant-loop-id
invariant-loop-id l =
    map output_event l.outs.items ≡ map output_event l.fn.outs.items ++ map (said_of l.word) (filter (is_not_among l.others) (take l.id-index l.ids))
