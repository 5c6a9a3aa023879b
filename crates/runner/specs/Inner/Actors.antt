-- The actors of a scenario's group.
use Rattle.std.specs.Prelude.{◌++◌, ◌∷◌, ℕ, suc, zero, List, [], map}
use Rattle.rows.specs.declared.actor.Actor.{Actor}
use Rattle.rows.specs.declared.actor.Actor.TheVariants.{Client, Server}
use Rattle.rows.specs.declared.node.NodeSpec.{NodeSpec}

-- so many servers
abbrev pub first_servers : ℕ → List Actor
first_servers zero = []
first_servers (suc n) = first_servers n ++ Server n ∷ []

-- and a client for each of these nodes
abbrev pub actors_of : ℕ → List NodeSpec → List Actor
actors_of n nodes = first_servers n ++ map (λ node. Client node.number) nodes
