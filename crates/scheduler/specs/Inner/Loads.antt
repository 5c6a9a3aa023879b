-- How full nodes are, as the code keeps it, and the best of them by its place in the list.
use Rattle.std.specs.Prelude.{◌≡◌, ℕ, ◌<◌, ◌≤◌, Bool, true, false, ◌&&◌, nat_eq, if◌then◌else◌, Option, Some, None, List, get_or, length}
use Rattle.rows.specs.declared.size.Size.{Size}
use Rattle.rows.specs.declared.job.Group.{Group}
use Rattle.rows.specs.declared.node.Node.{Node}
use Rattle.rows.specs.declared.allocation.Allocation.{Allocation}
use Rattle.rows.specs.declared.command.AcceptedPlace.{AcceptedPlace}
use Rattle.fsm_tables.specs.Claims.{Claim, used}
use Rattle.rows.specs.Sizes.{plus, plus_within, less, fits}
use Rattle.fsm_model.specs.Admission.{may_hold}
use Rattle.group_model.specs.Scheduling.{fullness}
use Rattle.scheduler.specs.declared.load.Load.{Load}

-- a node's load where so much is claimed
abbrev pub load_of : List Claim → Node → Load
load_of cs n = record { node = n; used = used n.number cs }

-- without what an allocation takes, if there is one
abbrev pub load_less : Option Allocation → Load → Load
load_less None l = l
load_less (Some a) l =
    if nat_eq a.node l.node.number
    then (record l { used = less l.used a.size })
    else l

-- with what a place takes, as far as the numbers go
abbrev pub with_load : AcceptedPlace → Load → Load
with_load k l =
    if nat_eq k.node l.node.number
    then (record l { used = plus_within l.used k.size })
    else l

abbrev pub load_with : Group → Load → Size
load_with g l = plus l.used g.size

abbrev pub takes_one_of : Group → Load → Bool
takes_one_of g l = may_hold g l.node && fits (load_with g l) l.node.size

abbrev pub fullness_on : Group → Load → ℕ
fullness_on g l = fullness (load_with g l) l.node.size

-- of the loads, each seen as `f` leaves it, the one at this place takes the group, none that does
-- is fuller, and those before it are less full
pub record IsBestAt (f : Load → Load) (g : Group) (ls : List Load) (at : ℕ) : Type 0 where
  pub within : at < length ls
  pub fits : (d : Load) → takes_one_of g (f (get_or ls at d)) ≡ true
  pub fullest : (j : ℕ) (d : Load) → j < length ls → takes_one_of g (f (get_or ls j d)) ≡ true
      → fullness_on g (f (get_or ls j d)) ≤ fullness_on g (f (get_or ls at d))
  pub first : (j : ℕ) (d : Load) → j < at → takes_one_of g (f (get_or ls j d)) ≡ true
      → fullness_on g (f (get_or ls j d)) < fullness_on g (f (get_or ls at d))

-- such a place, or that none takes it
abbrev pub IsBestOf : (Load → Load) → Group → List Load → Option ℕ → Type 0
IsBestOf f g ls None = (j : ℕ) (d : Load) → j < length ls → takes_one_of g (f (get_or ls j d)) ≡ false
IsBestOf f g ls (Some at) = IsBestAt f g ls at
