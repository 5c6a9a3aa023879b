use Rattle.std.proofs.Common.{◌≡◌}
use Rattle.std.specs.Prelude.{nat_eq}
use Rattle.std.specs.List.{list_any}
use Rattle.rows.specs.declared.node.Node.{Node}
use Rattle.fsm_tables.specs.Runs.{rows_left}
use Rattle.leader.proofs.following.has_just_room.Given as goal

abbrev pub invariant-loop-node : goal.invariant-loop-node
invariant-loop-node l =
    list_any (λ (n : Node). nat_eq n.room l.state.count) (rows_left l.node-iterator) ≡ list_any (λ (n : Node). nat_eq n.room l.state.count) l.state.nodes
