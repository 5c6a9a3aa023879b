-- Names, sizes, rows and commands of the worked cases.
use Rattle.std.specs.Prelude.{ℕ, true, false, List, [], ◌∷◌}
use Rattle.rows.specs.declared.size.Size.{Size}
use Rattle.rows.specs.declared.job.Group.{Group}
use Rattle.rows.specs.declared.node.Node.{Node}
use Rattle.rows.specs.declared.node.NodeStatus.TheVariants as statuses
use Rattle.rows.specs.declared.node.DrainMode.TheVariants as drains
use Rattle.rows.specs.declared.evaluation.EvalId.{EvalId}
use Rattle.rows.specs.declared.evaluation.Evaluation.{Evaluation}
use Rattle.rows.specs.declared.evaluation.EvalStatus.{EvalStatus}
use Rattle.rows.specs.declared.allocation.AllocId.{AllocId}
use Rattle.rows.specs.declared.allocation.Allocation.{Allocation}
use Rattle.rows.specs.declared.allocation.Desired.{Desired}
use Rattle.rows.specs.declared.allocation.ClientState.{ClientState}
use Rattle.rows.specs.declared.command.AcceptedPlace.{AcceptedPlace}
use Rattle.rows.specs.declared.command.ReportedState.TheVariants as reported_states
use Rattle.rows.specs.declared.command.Command.{Command}
use Rattle.rows.specs.declared.command.Command.TheVariants as commands
use Rattle.fsm_model.specs.Words.{State}
use Rattle.fsm_model.specs.Effect.{applied}

-- `linux`, `web`, `api`, `main`
abbrev pub linux : List ℕ
linux = 108 ∷ 105 ∷ 110 ∷ 117 ∷ 120 ∷ []

abbrev pub web : List ℕ
web = 119 ∷ 101 ∷ 98 ∷ []

abbrev pub api : List ℕ
api = 97 ∷ 112 ∷ 105 ∷ []

abbrev pub main : List ℕ
main = 109 ∷ 97 ∷ 105 ∷ 110 ∷ []

abbrev pub size_with_disk : ℕ → ℕ → ℕ → Size
size_with_disk cpu mem disk = record { cpu = cpu; mem = mem; disk = disk }

-- without disk
abbrev pub size : ℕ → ℕ → Size
size cpu mem = size_with_disk cpu mem 0

abbrev pub eval_id : ℕ → ℕ → EvalId
eval_id index slot = record { index = index; slot = slot }

abbrev pub alloc_id : ℕ → ℕ → AllocId
alloc_id index slot = record { index = index; slot = slot }

-- a node of class `linux` comes
abbrev pub comes : ℕ → Size → Command
comes n room = commands.NodePut (record { number = n; class = linux; size = room })

-- so many of group `main`, of class `linux`
abbrev pub mains : ℕ → Size → List Group
mains count need = record { name = main; count = count; class = linux; size = need } ∷ []

-- a job of that group, of priority 50
abbrev pub runs : List ℕ → ℕ → Size → Command
runs name count need = commands.JobPut (record { name = name; priority = 50; groups = mains count need })

-- allocation `main[index]` is to run on a node
abbrev pub place : ℕ → ℕ → Size → AcceptedPlace
place index n need = record { group = main; index = index; node = n; size = need }

-- a plan for an evaluation of a job, from a state
abbrev pub plans : EvalId → List ℕ → ℕ → List AllocId → List AcceptedPlace → Command
plans eval job snapshot stops places = commands.Plan (record { eval = eval; token = record { term = 1; serial = 1 }; job = job; snapshot = snapshot; stops = stops; places = places })

abbrev pub tells_running : ℕ → AllocId → Command
tells_running n id = commands.Report n (record { id = id; state = reported_states.Running } ∷ [])

-- a node as it came, ready and eligible
abbrev pub node_row : ℕ → Size → ℕ → Node
node_row n room at = record { number = n; class = linux; size = room; status = statuses.Ready; eligible = true; drain = drains.Off; room = at }

abbrev pub eval_row : EvalId → List ℕ → EvalStatus → Evaluation
eval_row id job status = record { id = id; job = job; priority = 50; status = status; snapshot = 0 }

-- an allocation without the migrate mark
abbrev pub alloc_row : AllocId → List ℕ → ℕ → ℕ → Size → Desired → ClientState → EvalId → Allocation
alloc_row id job index n need desired client eval = record { id = id; job = job; group = main; index = index; node = n; size = need; desired = desired; client = client; migrate = false; eval = eval }

abbrev pub after_all : State → List Command → State
after_all s [] = s
after_all s (c ∷ cs) = after_all (applied s c) cs
