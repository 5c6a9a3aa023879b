use Rattle.std.proofs.Common.{◌≡◌, ℕ, List, length, map}
use Rattle.client_node.specs.Turns.{HandsAll, asks_due}
use Rattle.client_node.proofs.handing.ask_all.Given as goal

-- those so far were asked
abbrev pub invariant-loop-place : goal.invariant-loop-place
invariant-loop-place l =
    (servers : List ℕ) × (length servers ≡ l.place) × HandsAll l.fn.agent l.fn.frames (map (asks_due l.due) servers) l.agent l.frames
