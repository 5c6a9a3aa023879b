-- What settles a group, and what keeps it from that.
use Rattle.std.specs.Prelude.{◌≡◌, ℕ, List, [], ◌∷◌, ◌++◌, Some, Ok, length, slice_get}
use Rattle.machine_model.specs.MachineSpec.{MachineSpec}
use Rattle.raft_model.specs.Rafts.{Raft}
use Rattle.raft_model.specs.Quorums.{Quorum}
use Rattle.raft_model.specs.Worlds.{World, Event, Crashes, happens, acting_server}
use Rattle.raft_progress.specs.Recovery.{HasRoom}
use Rattle.world.specs.WorldView.{WorldView, RunsTo}
use Rattle.world.specs.Steps.{OutOfMemoryMayEndFor}
use Rattle.recovery.specs.declared.unsettled.Unsettled.{Unsettled}
use Rattle.recovery.specs.declared.unsettled.Unsettled.TheVariants.{NoQuorum, Exhausted, NoMemory, Crashed}
use Rattle.recovery.specs.Runs.{is_up_in, Settles, Began}

module _ {S C : Type 0} (m : MachineSpec S C) where
  -- By these events, which its trace has, each run of the old value goes on to one of the new; R tells
  -- of its last world before and after.
  pub record GoesOn (old new : WorldView S C) (taken : List (Event C)) (R : World C → World C → Type 0) : Type 0 where
    pub size : length new.servers ≡ length old.servers
    pub trace : new.trace ≡ old.trace ++ taken
    pub runs : (past : List (World C)) (w : World C) → RunsTo m old past w →
        (later : List (World C)) × (v : World C) × RunsTo m new (past ++ later) v × R w v

  abbrev pub Goes : WorldView S C → WorldView S C → (List (Event C) → World C → World C → Type 0) → Type 0
  Goes old new R = (taken : List (Event C)) × GoesOn old new taken (λ w v. R taken w v)

  -- After calm events, in place of a further one, the crash of the server that took it: it may have
  -- wanted memory for it.
  pub record Fell (who : ℕ) (taken : List (Event C)) (w v : World C) : Type 0 where
    pub before : World C
    pub calm : List (Event C)
    pub began : Began m calm w before
    pub event : Event C
    pub actor : acting_server m before event ≡ Some who
    pub lacking : (s : Raft C) → slice_get before.servers who ≡ Some s → OutOfMemoryMayEndFor before event s
    pub crash : happens m before (Crashes who) ≡ Ok v
    pub taken_are : taken ≡ calm ++ Crashes who ∷ []

  -- P holds of the world that each run of the value leads to
  abbrev pub InRuns : WorldView S C → (World C → Type 0) → Type 0
  InRuns view P = (past : List (World C)) (w : World C) → RunsTo m view past w → P w

  -- a quorum is up, and whoever is up has room for two more terms and entries
  abbrev pub HasQuorum : WorldView S C → Type 0
  HasQuorum view = InRuns view (λ w. Quorum (length view.servers) (is_up_in w))

  abbrev pub UpHaveRoom : WorldView S C → Type 0
  UpHaveRoom view = InRuns view (λ w. HasRoom (length view.servers) (is_up_in w) w)

  abbrev pub LacksQuorum : WorldView S C → Type 0
  LacksQuorum view = InRuns view (λ w. Quorum (length view.servers) (is_up_in w) → ⊥)

  abbrev pub UpLackRoom : WorldView S C → Type 0
  UpLackRoom view = InRuns view (λ w. HasRoom (length view.servers) (is_up_in w) w → ⊥)

  -- why a group is not settled, and what happened to it
  abbrev pub WhyUnsettled : WorldView S C → WorldView S C → Unsettled → Type 0
  WhyUnsettled old new NoQuorum = LacksQuorum old × (new ≡ old)
  WhyUnsettled old new Exhausted = HasQuorum old × UpLackRoom old × (new ≡ old)
  WhyUnsettled old new NoMemory = HasQuorum old × UpHaveRoom old × Goes old new (λ taken w v. Began m taken w v)
  WhyUnsettled old new (Crashed who) = HasQuorum old × UpHaveRoom old × Goes old new (λ taken w v. Fell who taken w v)

  -- or it is, and this server leads
  pub record IsSettled (old new : WorldView S C) (who : ℕ) : Type 0 where
    pub quorum : HasQuorum old
    pub room : UpHaveRoom old
    pub went : Goes old new (λ taken w v. Settles m (length old.servers) who taken w v)
