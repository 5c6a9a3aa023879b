-- What is claimed after a plan, one claim after the other, as the code looks at it.
use Rattle.std.specs.Prelude.{T, take, ℕ, Bool, true, not, ◌&&◌, List, [], ◌∷◌, nat_eq, if◌then◌else◌}
use Rattle.rows.specs.declared.size.Size.{Size}
use Rattle.rows.specs.declared.node.Node.{Node}
use Rattle.rows.specs.Sizes.{less, fits}
use Rattle.rows.specs.declared.allocation.Allocation.{Allocation}
use Rattle.fsm_tables.specs.Claims.{Claim, claim_of, claims, is_live}
use Rattle.fsm_model.specs.Words.{State}
use Rattle.fsm_model.specs.Safe.{are_distinct}
use Rattle.fsm_model.specs.Plans.{is_made}

-- whether what is claimed of a node is within so much
abbrev pub fits_steps : ℕ → List Claim → Size → Bool
fits_steps n [] left = true
fits_steps n (c ∷ cs) left =
    if nat_eq c.node n then (fits c.size left && fits_steps n cs (less left c.size))
    else fits_steps n cs left

-- whether what is claimed of a node is within its size
abbrev pub bears_node : List Claim → Node → Bool
bears_node cs n = fits_steps n.number cs n.size

-- what a row that the plan does not replace claims, before the rest
abbrev pub left_one : ℕ → ℕ → Allocation → List Claim → List Claim
left_one x n a rest = if is_live a && not (is_made x 0 n a) then (claim_of a ∷ rest) else rest

-- the first claims are of rows of the state: they are of names held once, if the state's are
abbrev pub HeldOnce : ℕ → List Claim → State → Type 0
HeldOnce held cs s = T (are_distinct (claims s.allocs)) → T (are_distinct (take held cs))
