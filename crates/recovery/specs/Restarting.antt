-- Who is down restarts, and then the group settles; and what keeps it from that.
use Rattle.std.specs.Prelude.{◌≡◌, ℕ, zero, suc, ◌⊎◌, if◌then◌else◌, List, [], ◌∷◌, ◌++◌, length, map}
use Rattle.machine_model.specs.MachineSpec.{MachineSpec}
use Rattle.raft_model.specs.Worlds.{World, Event, Restarts}
use Rattle.raft_progress.specs.Recovery.{HasRoom, AfterRestarts, no_restart, a_restart, everybody, CanRecover}
use Rattle.world.specs.WorldView.{WorldView}
use Rattle.recovery.specs.declared.unsettled.Unsettled.{Unsettled}
use Rattle.recovery.specs.declared.unsettled.Unsettled.TheVariants.{NoQuorum, Exhausted, NoMemory, Crashed}
use Rattle.recovery.specs.Runs.{is_up_in, events_of, Began}
use Rattle.recovery.specs.Settling.{Goes, Fell, InRuns}

-- those of the first k servers that are down, in order
unfoldable pub downs : {C : Type 0} → ℕ → World C → List ℕ
downs zero w = []
downs (suc k) w = downs k w ++ (if is_up_in w k then [] else k ∷ [])

-- the events of some restarts, in order
unfoldable pub restarts_of : {S C : Type 0} (m : MachineSpec S C) (w : World C) (c : ℕ) (v : World C) → AfterRestarts m w c v → List (Event C)
restarts_of m w c v no_restart = []
restarts_of m w c v (a_restart {c = c1} {x = x} i y r h) = restarts_of m w c1 x r ++ Restarts i ∷ []

module _ {S C : Type 0} (m : MachineSpec S C) where
  -- By these events those of n servers that were down restarted, each once and in order, but for the
  -- last of them, which are left.
  pub record Restarted (n : ℕ) (left : List ℕ) (taken : List (Event C)) (w v : World C) : Type 0 where
    pub back : List ℕ
    pub were_down : downs n w ≡ back ++ left
    pub restarts : ℕ
    pub restarted : AfterRestarts m w restarts v
    pub restarts_are : restarts_of m w restarts v restarted ≡ taken
    pub taken_are : taken ≡ map Restarts back

  -- so far as to this server, which stays down
  abbrev pub RestartedUntil : ℕ → ℕ → List (Event C) → World C → World C → Type 0
  RestartedUntil n who taken w v = (later : List ℕ) × Restarted n (who ∷ later) taken w v

  -- all of them, and then came further events, of which R tells
  pub record RestartedThen (n : ℕ) (R : List (Event C) → World C → World C → Type 0) (taken : List (Event C)) (w v : World C) : Type 0 where
    pub restarts : List (Event C)
    pub further : List (Event C)
    pub awake : World C
    pub restarted : Restarted n [] restarts w awake
    pub came : R further awake v
    pub taken_are : taken ≡ restarts ++ further

  -- These events recover n servers, as `each_group_recovers` says that some do: exactly those that
  -- were down restart, each once; and then this one of all comes to lead and to have committed its
  -- whole log, which has all that it had, and all to have applied as much. That takes timeouts and
  -- beats of it, within the bounds, and deliveries of what was sent since the restarts.
  pub record Recovers (n who : ℕ) (taken : List (Event C)) (w v : World C) : Type 0 where
    pub can : CanRecover m n w
    pub who_is : let s = can.settles in s.who ≡ who
    pub world_is : let s = can.settles in s.world ≡ v
    pub restarts_are : restarts_of m w can.restarts can.world can.restarted ≡ map Restarts (downs n w)
    pub taken_are : let s = can.settles in
        taken ≡ map Restarts (downs n w) ++ events_of m s.who can.world s.timeouts s.beats s.world s.recovery

  -- each server, up or down, has room for two more terms and entries
  abbrev pub AllHaveRoom : WorldView S C → Type 0
  AllHaveRoom view = InRuns m view (λ w. HasRoom (length view.servers) everybody w)

  abbrev pub SomeLackRoom : WorldView S C → Type 0
  SomeLackRoom view = InRuns m view (λ w. HasRoom (length view.servers) everybody w → ⊥)

  -- Why a group is not settled with all its servers, and what happened to it. Memory was wanting for
  -- a restart, or once all were up; there is a quorum always.
  abbrev pub WhyAllUnsettled : WorldView S C → WorldView S C → Unsettled → Type 0
  WhyAllUnsettled old new NoQuorum = ⊥
  WhyAllUnsettled old new Exhausted = SomeLackRoom old × (new ≡ old)
  WhyAllUnsettled old new NoMemory = AllHaveRoom old × Goes m old new (λ taken w v.
      ((who : ℕ) × RestartedUntil (length old.servers) who taken w v)
      ⊎ RestartedThen (length old.servers) (λ calm x y. Began m calm x y) taken w v)
  WhyAllUnsettled old new (Crashed who) = AllHaveRoom old × Goes m old new (λ taken w v.
      RestartedUntil (length old.servers) who taken w v
      ⊎ RestartedThen (length old.servers) (λ calm x y. Fell m who calm x y) taken w v)

  -- or it is, and this server leads
  pub record AreSettled (old new : WorldView S C) (who : ℕ) : Type 0 where
    pub room : AllHaveRoom old
    pub went : Goes m old new (λ taken w v. Recovers (length old.servers) who taken w v)
