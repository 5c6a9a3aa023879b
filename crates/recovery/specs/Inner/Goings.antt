-- What is read off a value's log, and what becomes of the whole.
use Rattle.std.specs.Prelude.{◌≡◌, ℕ, ◌+◌, ◌⊎◌, ◌<◌, ◌≤◌, Bool, true, false, ◌||◌, ◌&&◌, ◌==◌, nat_lt, if◌then◌else◌, Option, Some, None, List, length, slice_get}
use Rattle.machine_model.specs.MachineSpec.{MachineSpec}
use Rattle.machine_model.specs.declared.entry.Entry.{Entry}
use Rattle.raft_model.specs.Logs.{MAX, last_term}
use Rattle.raft_model.specs.Messages.{Message}
use Rattle.raft_model.specs.Quorums.{Quorum}
use Rattle.raft_model.specs.Rafts.{Raft, is_up, is_leader}
use Rattle.raft_model.specs.Worlds.{World}
use Rattle.raft_progress.specs.Recovery.{HasRoom}
use Rattle.raft_progress.specs.Calm.{HasBestLog, NobodyAhead}
use Rattle.recovery.specs.declared.unsettled.Unsettled.{Unsettled}
use Rattle.recovery.specs.declared.unsettled.Unsettled.TheVariants.{NoQuorum, Exhausted}
use Rattle.recovery.specs.Runs.{is_up_in, Settles}
use Rattle.recovery.specs.Inner.Spreads.{IsBehind}
use Rattle.recovery.specs.Inner.Drives.{Drive, Ever, Went, Stops}

module _ {V S C : Type 0} (d : Drive V S C) where
  -- a quorum is up, or not
  abbrev pub QuorumIsUp : V → Type 0
  QuorumIsUp view = Ever d view (λ w. Quorum (d.size view) (is_up_in w))

  abbrev pub QuorumLacks : V → Type 0
  QuorumLacks view = Ever d view (λ w. Quorum (d.size view) (is_up_in w) → ⊥)

  -- whoever is up has room for two more terms and entries, or not
  abbrev pub RoomIsThere : V → Type 0
  RoomIsThere view = Ever d view (λ w. HasRoom (d.size view) (is_up_in w) w)

  abbrev pub RoomLacks : V → Type 0
  RoomLacks view = Ever d view (λ w. HasRoom (d.size view) (is_up_in w) w → ⊥)

  module _ (m : MachineSpec S C) where
    -- the value is settled by server `who`
    pub record DriveSettled (old new : V) (who : ℕ) : Type 0 where
      pub quorum : QuorumIsUp old
      pub room : RoomIsThere old
      pub went : Went d old new (λ taken w v. Settles m (d.size old) who taken w v)

    -- by server `who`, memory was wanting on the way
    pub record Halted (old new : V) (why : Unsettled) : Type 0 where
      pub quorum : QuorumIsUp old
      pub room : RoomIsThere old
      pub who : ℕ
      pub stops : Stops d m who old new why

    -- why it is not
    abbrev pub WhyDriveUnsettled : V → V → Unsettled → Type 0
    WhyDriveUnsettled old new NoQuorum = QuorumLacks old × (new ≡ old)
    WhyDriveUnsettled old new Exhausted = QuorumIsUp old × RoomLacks old × (new ≡ old)
    WhyDriveUnsettled old new why = Halted old new why

-- ---- what is read

abbrev pub leader_there : {C : Type 0} → Option (Raft C) → Bool
leader_there None = false
leader_there (Some s) = is_leader s.mode

-- whether server j leads in this world
abbrev pub leads_in : {C : Type 0} → World C → ℕ → Bool
leads_in w j = leader_there (slice_get w.servers j)

-- the message at this place is for this server, which is up
abbrev pub ForServer : {C : Type 0} → ℕ → ℕ → World C → Type 0
ForServer {C} place k w = (z : Message C) → slice_get w.sent place ≡ Some z → (z.to ≡ k) × (is_up_in w k ≡ true)

-- it is for none that is up
abbrev pub ForNobody : {C : Type 0} → ℕ → World C → Type 0
ForNobody {C} place w = (z : Message C) → slice_get w.sent place ≡ Some z → is_up_in w z.to ≡ false

-- whoever is to receive the message at this place, it is this server
abbrev pub GoesTo : {C : Type 0} → Option ℕ → ℕ → World C → Type 0
GoesTo {C} to place w = (z : Message C) → slice_get w.sent place ≡ Some z → to ≡ Some z.to

-- a number of server j, if it is there
abbrev pub IsOf : {C : Type 0} → (Raft C → ℕ) → ℕ → ℕ → World C → Type 0
IsOf {C} number j x w = (s : Raft C) → slice_get w.servers j ≡ Some s → x ≡ number s

-- the server, of two, that is up and in a later term; else the first
abbrev pub IsHigher : {C : Type 0} → ℕ → ℕ → ℕ → World C → Type 0
IsHigher top other k w = ((k ≡ other) × (is_up_in w other ≡ true) × IsBehind top other w)
    ⊎ ((k ≡ top) × (is_up_in w other ≡ true → IsBehind top other w → ⊥))

-- server j is up, and has no room for two more terms and two more entries
abbrev pub IsFull : {C : Type 0} → ℕ → World C → Type 0
IsFull {C} j w = (s : Raft C) × (slice_get w.servers j ≡ Some s) × (is_up s.mode ≡ true) × ((s.term + 2 ≤ MAX) × (length s.log + 2 ≤ MAX) → ⊥)

-- or it has, if it is up
abbrev pub HasPlace : {C : Type 0} → ℕ → World C → Type 0
HasPlace {C} j w = (s : Raft C) → slice_get w.servers j ≡ Some s → is_up s.mode ≡ true → (s.term + 2 ≤ MAX) × (length s.log + 2 ≤ MAX)

-- the first log is older than the second
abbrev pub is_older_log : {C : Type 0} → List (Entry C) → List (Entry C) → Bool
is_older_log X Y = nat_lt (last_term X) (last_term Y) || ((last_term X == last_term Y) && nat_lt (length X) (length Y))

-- so of the logs of two servers
abbrev pub IsOlder : {C : Type 0} → ℕ → ℕ → Bool → World C → Type 0
IsOlder {C} j k older w = (s t : Raft C) → slice_get w.servers j ≡ Some s → slice_get w.servers k ≡ Some t → older ≡ is_older_log s.log t.log

-- one of n servers, or none
abbrev pub IsServerOf : ℕ → Option ℕ → Type 0
IsServerOf n None = Unit {0}
IsServerOf n (Some k) = k < n

-- server j leads, and none of n servers that is up is in a later term
abbrev pub LeadsAll : {C : Type 0} → ℕ → ℕ → World C → Type 0
LeadsAll n j w = (leads_in w j ≡ true) × NobodyAhead n (is_up_in w) j w

-- A next server is preferred to server j, or not: it is if its log is newer, and if its log is as new
-- and it leads all.
abbrev pub IsPreferred : {C : Type 0} → ℕ → ℕ → ℕ → Bool → World C → Type 0
IsPreferred n j next true w = IsOlder j next true w ⊎ (IsOlder next j false w × LeadsAll n next w)
IsPreferred n j next false w = IsOlder j next false w × (IsOlder next j true w ⊎ (LeadsAll n next w → ⊥))

-- of the best so far, if there is one, and a next server, the one that is up and preferred
abbrev pub IsBetter : {C : Type 0} → ℕ → Option ℕ → ℕ → Option ℕ → World C → Type 0
IsBetter n None next None w = is_up_in w next ≡ false
IsBetter n None next (Some k) w = (k ≡ next) × (is_up_in w next ≡ true)
IsBetter n (Some j) next None w = ⊥
IsBetter n (Some j) next (Some k) w = ((k ≡ j) × (is_up_in w next ≡ false))
    ⊎ ((is_up_in w next ≡ true) × (preferred : Bool) × IsPreferred n j next preferred w × (k ≡ if preferred then next else j))

-- Server k is up, and its log is no older than those of the others that are. It leads all if another
-- with such a log does.
pub record IsBest {C : Type 0} (n k : ℕ) (w : World C) : Type 0 where
  pub less : k < n
  pub up : is_up_in w k ≡ true
  pub best : HasBestLog n (is_up_in w) k w
  pub leads : (j : ℕ) → j < n → is_up_in w j ≡ true → HasBestLog n (is_up_in w) j w → LeadsAll n j w → LeadsAll n k w
