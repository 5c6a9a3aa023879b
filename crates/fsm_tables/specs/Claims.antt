-- What the live allocations hold: room on a node, and a name.
use Rattle.std.specs.Prelude.{ℕ, Bool, true, false, not, cond, ◌&&◌, List, [], ◌∷◌, nat_eq, bytes_eq, sum_by}
use Rattle.std.specs.List.{list_any}
use Rattle.rows.specs.declared.size.Size.{Size}
use Rattle.rows.specs.Sizes.{Part, amount, by_parts}
use Rattle.rows.specs.declared.allocation.Desired.{Desired}
use Rattle.rows.specs.declared.allocation.Desired.TheVariants as desires
use Rattle.rows.specs.declared.allocation.ClientState.{ClientState}
use Rattle.rows.specs.declared.allocation.ClientState.TheVariants as clients
use Rattle.rows.specs.declared.allocation.Allocation.{Allocation}

abbrev pub is_wanted : Desired → Bool
is_wanted desires.Run = true
is_wanted desires.Stop = false

-- whether the client has it still to start, or runs it, or may do so out of sight
abbrev pub is_active : ClientState → Bool
is_active clients.Pending = true
is_active clients.Running = true
is_active clients.Unknown = true
is_active _ = false

-- an allocation is live where its desired status is run and its client state is pending, running or
-- unknown
abbrev pub is_live : Allocation → Bool
is_live a = is_wanted a.desired && is_active a.client

-- what a live allocation holds: the name `job.group[index]`, and so much of a node
pub record Claim : Type 0 where
  pub job : List ℕ
  pub group : List ℕ
  pub index : ℕ
  pub node : ℕ
  pub size : Size

abbrev pub claim_of : Allocation → Claim
claim_of a = record { job = a.job; group = a.group; index = a.index; node = a.node; size = a.size }

-- what the live ones among the rows hold, one claim for each
abbrev pub claims : List Allocation → List Claim
claims [] = []
claims (a ∷ others) = cond (is_live a) (claim_of a ∷ claims others) (claims others)

-- two claims are of one name `job.group[index]`
abbrev pub same_name : Claim → Claim → Bool
same_name c d = bytes_eq c.job d.job && bytes_eq c.group d.group && nat_eq c.index d.index

-- no two claims are of one name
abbrev pub are_distinct : List Claim → Bool
are_distinct [] = true
are_distinct (c ∷ cs) = not (list_any (same_name c) cs) && are_distinct cs

-- what a claim takes of a node: a part of its size, if it names the node
abbrev pub on_node : ℕ → Part → Claim → ℕ
on_node n p c = cond (nat_eq c.node n) (amount p c.size) 0

-- a node's use: of each part, the sum over the claims that name it
abbrev pub used : ℕ → List Claim → Size
used n cs = by_parts (λ p. sum_by (on_node n p) cs)
