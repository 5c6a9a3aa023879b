use Rattle.std.proofs.Common.{◌≡◌, ◌++◌}
use Rattle.std.specs.List.{filter_map}
use Rattle.fsm_tables.specs.Runs.{rows_left}
use Rattle.server_node.specs.Sights.{heard_node}
use Rattle.server_node.proofs.looking.look_at_nodes.Given as goal

-- those so far
abbrev pub invariant-loop-row : goal.invariant-loop-row
invariant-loop-row l = l.seen.items ++ filter_map (heard_node l.expiry) (rows_left l.row-iterator) ≡ filter_map (heard_node l.expiry) l.state.nodes
