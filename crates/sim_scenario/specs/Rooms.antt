-- Which groups of a job no node of a scenario has room for.
use Rattle.std.specs.Prelude.{Bool, not, ◌&&◌, nat_le, bytes_eq, List}
use Rattle.std.specs.List.{list_any}
use Rattle.rows.specs.declared.job.Group.{Group}
use Rattle.rows.specs.declared.node.NodeSpec.{NodeSpec}

-- the node is of the group's class, and with nothing else on it has room for one of the group
abbrev pub can_hold : Group → NodeSpec → Bool
can_hold g n =
    bytes_eq n.class g.class && nat_le g.size.cpu n.size.cpu && nat_le g.size.mem n.size.mem
    && nat_le g.size.disk n.size.disk

abbrev pub is_too_large : List NodeSpec → Group → Bool
is_too_large nodes g = not (list_any (can_hold g) nodes)
