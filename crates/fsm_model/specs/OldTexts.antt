-- What texts of version 1 say, which tell of no disk.
use Rattle.std.specs.Prelude.{◌≡◌, ◌≤◌, T, List, is_some}
use Rattle.std.specs.List.{AllByRecursion}
use Rattle.rows.specs.declared.size.Size.{Size}
use Rattle.rows.specs.declared.job.Group.{Group}
use Rattle.rows.specs.declared.node.Node.{Node}
use Rattle.rows.specs.declared.command.Command.{Command}
use Rattle.rows.specs.declared.command.Command.TheVariants as commands
use Rattle.fsm_tables.specs.Claims.{Claim, claims, used}
use Rattle.fsm_model.specs.Words.{State, node_of}
use Rattle.fsm_model.specs.SafeFacts.{AllApart}

abbrev pub HasNoDisk : Size → Type 0
HasNoDisk z = z.disk ≡ 0

-- each of the groups asks for none
abbrev pub AskForNoDisk : List Group → Type 0
AskForNoDisk gs = AllByRecursion (λ g. HasNoDisk g.size) gs

-- no size of the state has disk
pub record IsStateWithoutDisk (s : State) : Type 0 where
  pub jobs : AllByRecursion (λ j. AskForNoDisk j.groups) s.jobs
  pub nodes : AllByRecursion (λ n. HasNoDisk n.size) s.nodes
  pub allocs : AllByRecursion (λ a. HasNoDisk a.size) s.allocs

-- no size of the command has disk
abbrev pub IsWithoutDisk : Command → Type 0
IsWithoutDisk (commands.JobPut job) = AskForNoDisk job.groups
IsWithoutDisk (commands.NodePut node) = HasNoDisk node.size
IsWithoutDisk (commands.Plan plan) = AllByRecursion (λ k. HasNoDisk k.size) plan.places
IsWithoutDisk _ = Unit {0}

-- the node's use is within what it has by the two sums that there were: of processor time, and of
-- memory
abbrev pub WithinOfTwo : List Claim → Node → Type 0
WithinOfTwo cs n = ((used n.number cs).cpu ≤ n.size.cpu) × ((used n.number cs).mem ≤ n.size.mem)

-- what was promised of a state by these two sums
pub record SafeOfTwo (s : State) : Type 0 where
  pub within : AllByRecursion (WithinOfTwo (claims s.allocs)) s.nodes
  pub placed : AllByRecursion (λ c. T (is_some (node_of c.node s))) (claims s.allocs)
  pub apart : AllApart (claims s.allocs)
