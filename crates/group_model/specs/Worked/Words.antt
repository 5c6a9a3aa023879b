-- Servers, logs and rows of the worked steps, and what events and inputs make of them. Servers are
-- numbered from 0 here, as everywhere in definitions.
use Rattle.std.specs.Prelude.{ℕ, true, false, Option, Some, None, Result, Ok, Err, List, [], ◌∷◌}
use Rattle.rows.specs.declared.refusal.Refusal.{Refusal}
use Rattle.rows.specs.declared.size.Size.{Size}
use Rattle.rows.specs.declared.node.Node.{Node}
use Rattle.rows.specs.declared.node.NodeStatus.TheVariants as statuses
use Rattle.rows.specs.declared.node.DrainMode.TheVariants as drains
use Rattle.rows.specs.declared.evaluation.EvalStatus.TheVariants as eval_statuses
use Rattle.rows.specs.declared.token.Token.{Token}
use Rattle.rows.specs.declared.allocation.AllocId.{AllocId}
use Rattle.rows.specs.declared.allocation.Allocation.{Allocation}
use Rattle.rows.specs.declared.allocation.Desired.TheVariants as desires
use Rattle.rows.specs.declared.allocation.ClientState.TheVariants as clients
use Rattle.rows.specs.declared.command.Command.{Command}
use Rattle.rows.specs.declared.command.Command.TheVariants as commands
use Rattle.machine_model.specs.declared.entry.Entry.{Entry}
use Rattle.raft_model.specs.Rafts as rafts
use Rattle.fsm_model.specs.Words.{State}
use Rattle.fsm_model.specs.Words.{no_rows}
use Rattle.fsm_model.specs.Worked.Words.{linux, web, api, main, size, size_with_disk, eval_id, alloc_id, comes, mains, runs, after_all}
use Rattle.group_model.specs.Desks.{Desk, after_entries}
use Rattle.group_model.specs.Inputs as inputs
use Rattle.group_model.specs.Servers as servers
use Rattle.group_model.specs.Servers.{Server}
use Rattle.group_model.specs.Messages.{GroupMessage}
use Rattle.group_model.specs.Worlds as worlds
use Rattle.group_model.specs.Worlds.{World, Event}

abbrev pub token : ℕ → ℕ → Token
token term serial = record { term = term; serial = serial }

abbrev pub or_same : World → Result World Refusal → World
or_same w (Ok next) = next
or_same w (Err r) = w

abbrev pub after_events : World → List Event → World
after_events w [] = w
after_events w (e ∷ es) = after_events (or_same w (worlds.happens w e)) es

-- ---- a leader of term 1 with two nodes and a job, all applied

abbrev pub entry : ℕ → Command → Entry Command
entry term c = record { term = term; command = c }

abbrev pub log : List (Entry Command)
log = entry 1 commands.Noop ∷ entry 1 (comes 1 (size 1000 1000)) ∷ entry 1 (comes 2 (size 1000 1000)) ∷ entry 1 (runs web 2 (size 600 300)) ∷ []

abbrev pub leads : List (Entry Command) → ℕ → Option Desk → Server
leads log commit desk = record {
  raft = record { term = 1; vote = Some 0; log = log; covered = 0; commit = commit; known = None; mode = rafts.Leader (5 ∷ 5 ∷ 5 ∷ []) (0 ∷ 4 ∷ 0 ∷ []) };
  desk = desk;
}

abbrev pub leader : Server
leader = leads log 4 (after_entries 1 no_rows log None)

abbrev pub or_stays : Server → Result servers.ServerTurn Refusal → Server
or_stays s (Ok turn) = turn.server
or_stays s (Err r) = s

abbrev pub after_inputs : Server → List inputs.Input → Server
after_inputs s [] = s
after_inputs s (input ∷ rest) = after_inputs (or_stays s (servers.step 3 0 s input)) rest

abbrev pub sent_by : Result servers.ServerTurn Refusal → List GroupMessage
sent_by (Ok turn) = turn.sent
sent_by (Err r) = []

-- ---- rows

abbrev pub node_row : ℕ → Node
node_row n = record { number = n; class = linux; size = size 1000 1000; status = statuses.Ready; eligible = true; drain = drains.Off; room = n }

abbrev pub alloc_row : AllocId → List ℕ → ℕ → ℕ → Size → Allocation
alloc_row id job index n z =
    record { id = id; job = job; group = main; index = index; node = n; size = z; desired = desires.Run; client = clients.Running; migrate = false; eval = eval_id 4 0 }

-- 5.0 runs on node 1 as the job's main[0], and on node 2 so much is in use
abbrev pub one_runs : Size → State
one_runs used = record {
  count = 6;
  jobs = record { name = web; priority = 50; stopped = false; version = 4; groups = mains 1 (size 600 300) } ∷ [];
  nodes = node_row 1 ∷ node_row 2 ∷ [];
  evals = record { id = eval_id 4 0; job = web; priority = 50; status = eval_statuses.Pending; snapshot = 0 } ∷ [];
  allocs = alloc_row (alloc_id 5 0) web 0 1 (size 600 300) ∷ alloc_row (alloc_id 6 0) api 0 2 used ∷ [];
}

-- ---- two nodes, with 100 and 50 MB of disk, and `web` of two allocations that each take so much
-- of it, and a tenth of the nodes' processor time and memory

abbrev pub on_disks : ℕ → State
on_disks disk = after_all no_rows (
    commands.Noop
    ∷ comes 1 (size_with_disk 1000 1000 100)
    ∷ comes 2 (size_with_disk 1000 1000 50)
    ∷ runs web 2 (size_with_disk 100 100 disk)
    ∷ [])

-- ---- a leader of term 1 with one node and two jobs that each want 600 of its 1000, all applied

-- jobs a and b
abbrev pub a : List ℕ
a = 97 ∷ []

abbrev pub b : List ℕ
b = 98 ∷ []

abbrev pub one_main : List ℕ → ℕ → Command
one_main name cpu = runs name 1 (size cpu 100)

abbrev pub narrow : List (Entry Command)
narrow = entry 1 commands.Noop ∷ entry 1 (comes 1 (size 1000 1000)) ∷ entry 1 (one_main a 600) ∷ entry 1 (one_main b 600) ∷ []

abbrev pub at_narrow : Server
at_narrow = leads narrow 4 (after_entries 1 no_rows narrow None)
