-- What is told of a group at the end of a run: a line for each server, for each live allocation of
-- the greatest applied state, for each client, and one of all that happened.
use Rattle.std.specs.Prelude.{◌≡◌, ◌≢◌, ℕ, suc, ◌≤◌, false, true, Option, Some, None, List, [], ◌∷◌, ◌++◌, length, slice_get, filter, codes, decimal}
use Rattle.std.specs.Io.KnownBytes.{Appends}
use Rattle.std.specs.List.{flat_map}
use Rattle.std.specs.List.Sorted.{IsPermutation, IsSorted}
use Rattle.std.specs.Ordering.{nat_cmp, ordering_then}
use Rattle.std.specs.declared.cmp.Ordering.{Ordering}
use Rattle.rows.specs.Keys.{name_cmp}
use Rattle.rows.specs.declared.allocation.AllocId.{AllocId}
use Rattle.rows.specs.declared.allocation.Allocation.{Allocation}
use Rattle.rows.specs.declared.allocation.ClientState.{ClientState}
use Rattle.rows.specs.declared.allocation.ClientState.TheVariants.{Pending, Running as RunningState, Complete, Failed, Lost, Unknown}
use Rattle.fsm_tables.specs.Claims.{is_live}
use Rattle.raft_model.specs.Rafts.{Mode, Down, Follower, Candidate, Leader, is_up}
use Rattle.group_model.specs.Agents.{Agent, Life, Running}
use Rattle.group_model.specs.Desks.{applied_state}
use Rattle.group_model.specs.Servers.{Server}
use Rattle.group_model.specs.Worlds.{World}
use Rattle.world.specs.GroupView.{GroupView, GroupRunsTo}

-- the lines of these, one for each, numbered from k on
abbrev pub numbered_lines : {A : Type 0} → (ℕ → A → List ℕ) → ℕ → List A → List ℕ
numbered_lines line k [] = []
numbered_lines line k (x ∷ xs) = line k x ++ numbered_lines line (suc k) xs

-- ---- servers

-- what a server is doing
abbrev pub mode_word : Mode → List ℕ
mode_word Down = codes "down"
mode_word Follower = codes "follower"
mode_word (Candidate votes) = codes "candidate"
mode_word (Leader next match) = codes "leader"

-- how many entries it has applied, which is told of one that is up
abbrev pub applied_words : Mode → ℕ → List ℕ
applied_words Down commit = []
applied_words _ commit = codes " applied " ++ decimal commit

-- `server K MODE term T last L`, and `applied A` behind it
abbrev pub server_line : ℕ → Server → List ℕ
server_line k s =
    codes "server " ++ (decimal k ++ (codes " " ++ (mode_word s.raft.mode ++ (codes " term " ++ (decimal s.raft.term
    ++ (codes " last " ++ (decimal (length s.raft.log) ++ (applied_words s.raft.mode s.raft.commit ++ codes "\n"))))))))

-- ---- allocations

-- `X.Y`: the entry that made it, and its place among those of the entry
abbrev pub id_text : AllocId → List ℕ
id_text id = decimal id.index ++ (codes "." ++ decimal id.slot)

abbrev pub state_word : ClientState → List ℕ
state_word Pending = codes "pending"
state_word RunningState = codes "running"
state_word Complete = codes "complete"
state_word Failed = codes "failed"
state_word Lost = codes "lost"
state_word Unknown = codes "unknown"

-- `alloc JOB.GROUP[K] id X.Y node N STATE`
abbrev pub row_line : Allocation → List ℕ
row_line a =
    codes "alloc " ++ (a.job ++ (codes "." ++ (a.group ++ (codes "[" ++ (decimal a.index ++ (codes "] id "
    ++ (id_text a.id ++ (codes " node " ++ (decimal a.node ++ (codes " " ++ (state_word a.client ++ codes "\n")))))))))))

-- by job, then by group, then by index
abbrev pub row_cmp : Allocation → Allocation → Ordering
row_cmp a b =
    ordering_then (name_cmp a.job b.job) (ordering_then (name_cmp a.group b.group) (nat_cmp a.index b.index))

-- the live ones of these allocations, each once, in that order
pub record AreLiveRows (all rows : List Allocation) : Type 0 where
  pub each : IsPermutation (filter is_live all) rows
  pub ordered : IsSorted row_cmp rows

-- a server that is up, and that none that is up has applied more than
pub record IsNewest (servers : List Server) (s : Server) : Type 0 where
  pub place : ℕ
  pub at : slice_get servers place ≡ Some s
  pub up : is_up s.raft.mode ≡ true
  pub most : (i : ℕ) (other : Server) → slice_get servers i ≡ Some other → is_up other.raft.mode ≡ true → other.raft.commit ≤ s.raft.commit

abbrev pub NoneIsUp : List Server → Type 0
NoneIsUp servers = (i : ℕ) (s : Server) → slice_get servers i ≡ Some s → is_up s.raft.mode ≡ false

-- The allocations that are told: the live ones of the state that such a server has applied; none
-- where none is up.
pub data AreTold (servers : List Server) : List Allocation → Type 0 where
  of_none : NoneIsUp servers → AreTold servers []
  of_newest : (s : Server) (rows : List Allocation) → IsNewest servers s → AreLiveRows (applied_state s.raft).allocs rows → AreTold servers rows

-- ---- clients

-- the ids of what runs, in the order in which they were started, with commas between; a dash where
-- nothing runs
abbrev pub running_words : List Running → List ℕ
running_words [] = codes "-"
running_words (first ∷ others) = id_text first.id ++ flat_map (λ (r : Running). codes "," ++ id_text r.id) others

abbrev pub life_words : Option Life → List ℕ
life_words None = codes "down"
life_words (Some life) = codes "up seen " ++ (decimal life.seen ++ (codes " running " ++ running_words life.running))

-- `client C up seen X running IDS`, or `client C down`
abbrev pub client_line : ℕ → Agent → List ℕ
client_line k c = codes "client " ++ (decimal k ++ (codes " " ++ (life_words c.life ++ codes "\n")))

-- ---- the whole

-- `events E messages M`
abbrev pub total_line : ℕ → ℕ → List ℕ
total_line events messages = codes "events " ++ (decimal events ++ (codes " messages " ++ (decimal messages ++ codes "\n")))

-- the last lines of a run of so many events to this world
pub record IsEnding (w : World) (events : ℕ) (lines : List ℕ) : Type 0 where
  pub rows : List Allocation
  pub told : AreTold w.servers rows
  pub are : lines ≡ numbered_lines server_line 1 w.servers ++ (flat_map row_line rows ++ (numbered_lines client_line 1 w.clients ++ total_line events (length w.sent)))

-- the value has a run, and this holds of the world at the end of each of its runs
pub record InEachRun (view : GroupView) (P : World → Type 0) : Type 0 where
  pub past : List World
  pub world : World
  pub runs : GroupRunsTo view past world
  pub ever : (past : List World) (w : World) → GroupRunsTo view past w → P w

-- known output grows by the last lines
abbrev pub TellsEnding : GroupView → Option (List ℕ) → Option (List ℕ) → Type 0
TellsEnding view old new =
    InEachRun view (λ w. (lines : List ℕ) × IsEnding w (length view.trace) lines × Appends old new lines)

-- Some server is up, and the state of the newest has a live allocation.
pub record HasRows (servers : List Server) : Type 0 where
  pub server : Server
  pub newest : IsNewest servers server
  pub some : filter is_live (applied_state server.raft).allocs ≢ []

-- there are allocations to tell, but known output grows by the servers' lines alone
abbrev pub StopsAtRows : GroupView → Option (List ℕ) → Option (List ℕ) → Type 0
StopsAtRows view old new =
    InEachRun view (λ w. HasRows w.servers × Appends old new (numbered_lines server_line 1 w.servers))
