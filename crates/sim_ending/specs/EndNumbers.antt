-- How a run ended, in numbers: those of its last lines.
use Rattle.std.specs.Prelude.{◌≡◌, ◌==◌, ◌&&◌, ◌<◌, ℕ, Bool, true, false, List, Option, None, Some, nat_lt, count_by, fold, length, slice_get, if◌then◌else◌}
use Rattle.rows.specs.declared.allocation.Allocation.{Allocation}
use Rattle.rows.specs.declared.allocation.ClientState.{ClientState}
use Rattle.rows.specs.declared.allocation.ClientState.TheVariants.{Pending, Running, Complete, Failed, Lost, Unknown}
use Rattle.raft_model.specs.Rafts.{Mode, Down, Follower, Candidate, Leader}
use Rattle.group_model.specs.Servers.{Server}
use Rattle.group_model.specs.Worlds.{World}
use Rattle.world.specs.GroupView.{GroupView}
use Rattle.sim_ending.specs.declared.numbers.EndNumbers.{EndNumbers}
use Rattle.sim_ending.specs.Endings.{AreTold, InEachRun}

abbrev pub later : ℕ → ℕ → ℕ
later one other = if nat_lt one other then other else one

-- the greatest term of these servers
abbrev pub greatest_term : List Server → ℕ
greatest_term servers = fold (λ term (s : Server). later term s.raft.term) 0 servers

abbrev pub is_leader : Mode → Bool
is_leader Down = false
is_leader Follower = false
is_leader (Candidate votes) = false
is_leader (Leader next match) = true

abbrev pub leads_in : ℕ → Server → Bool
leads_in term s = is_leader s.raft.mode && (s.raft.term == term)

-- none of these leads in this term before the place
abbrev pub NoneLeads : ℕ → List Server → ℕ → Type 0
NoneLeads term servers place =
    (i : ℕ) (s : Server) → i < place → slice_get servers i ≡ Some s → leads_in term s ≡ false

-- the first of them that leads in this term, by its place; none where none leads in it
abbrev pub IsFirstLeader : ℕ → List Server → Option ℕ → Type 0
IsFirstLeader term servers None = NoneLeads term servers (length servers)
IsFirstLeader term servers (Some place) =
    ((s : Server) × (slice_get servers place ≡ Some s) × (leads_in term s ≡ true)) × NoneLeads term servers place

abbrev pub client_runs : ClientState → Bool
client_runs Pending = false
client_runs Running = true
client_runs Complete = false
client_runs Failed = false
client_runs Lost = false
client_runs Unknown = false

abbrev pub is_running : Allocation → Bool
is_running a = client_runs a.client

-- so many allocations are told of these servers, and so many of them run
abbrev pub RowNumbers : ℕ → ℕ → List Server → Type 0
RowNumbers live running servers =
    (rows : List Allocation) × AreTold servers rows × (live ≡ length rows) × (running ≡ count_by is_running rows)

-- the numbers of the last lines of a run of so many events to this world
pub record AreNumbers (w : World) (events : ℕ) (n : EndNumbers) : Type 0 where
  pub term : n.term ≡ greatest_term w.servers
  pub leader : IsFirstLeader n.term w.servers n.leader
  pub rows : RowNumbers n.live n.running w.servers
  pub happened : n.events ≡ events
  pub sent : n.messages ≡ length w.sent

-- in each run of the group they are those of its world
abbrev pub HasNumbers : GroupView → EndNumbers → Type 0
HasNumbers view n = InEachRun view (λ w. AreNumbers w (length view.trace) n)
