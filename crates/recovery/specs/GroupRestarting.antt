-- Who of a whole group is down restarts, and then the group settles; and what keeps it from that.
use Rattle.std.specs.Prelude.{◌≡◌, ℕ, ◌⊎◌, List, [], ◌∷◌, ◌++◌, length, map}
use Rattle.raft_progress.specs.Recovery.{HasRoom, everybody}
use Rattle.group_model.specs.Inputs as inputs
use Rattle.group_model.specs.Worlds.{World, Event, AtServer, raft_of}
use Rattle.group_progress.specs.GroupRecovery.{GroupAfterRestarts, no_restart, a_restart, GroupCanRecover}
use Rattle.world.specs.GroupView.{GroupView}
use Rattle.recovery.specs.declared.unsettled.Unsettled.{Unsettled}
use Rattle.recovery.specs.declared.unsettled.Unsettled.TheVariants.{NoQuorum, Exhausted, NoMemory, Crashed}
use Rattle.recovery.specs.Restarting.{downs}
use Rattle.recovery.specs.GroupSettling.{group_events_of, GroupBegan, GroupFell, GroupGoes, InGroupRuns}

abbrev pub restart_of : ℕ → Event
restart_of i = AtServer i inputs.Restart

-- the events of some restarts, in order
unfoldable pub group_restarts_of : (w : World) (c : ℕ) (v : World) → GroupAfterRestarts w c v → List Event
group_restarts_of w c v no_restart = []
group_restarts_of w c v (a_restart {c = c1} {x = x} i y r is h) = group_restarts_of w c1 x r ++ restart_of i ∷ []

-- By these events those of n servers that were down restarted, each once and in order, but for the
-- last of them, which are left.
pub record GroupRestarted (n : ℕ) (left : List ℕ) (taken : List Event) (w v : World) : Type 0 where
  pub back : List ℕ
  pub were_down : downs n (raft_of w) ≡ back ++ left
  pub restarts : ℕ
  pub restarted : GroupAfterRestarts w restarts v
  pub restarts_are : group_restarts_of w restarts v restarted ≡ taken
  pub taken_are : taken ≡ map restart_of back

-- so far as to this server, which stays down
abbrev pub GroupRestartedUntil : ℕ → ℕ → List Event → World → World → Type 0
GroupRestartedUntil n who taken w v = (later : List ℕ) × GroupRestarted n (who ∷ later) taken w v

-- all of them, and then came further events, of which R tells
pub record GroupRestartedThen (n : ℕ) (R : List Event → World → World → Type 0) (taken : List Event) (w v : World) : Type 0 where
  pub restarts : List Event
  pub further : List Event
  pub awake : World
  pub restarted : GroupRestarted n [] restarts w awake
  pub came : R further awake v
  pub taken_are : taken ≡ restarts ++ further

-- These events recover a group of n servers, as `each_group_recovers` says that some do: exactly
-- those that were down restart, each once; and then this one of all comes to lead, with an open
-- desk, and to have committed its whole log, which has all that it had, and all to have applied as
-- much. That takes timeouts and beats of it, within the bounds, and deliveries of what was sent
-- since the restarts.
pub record GroupRecovers (n who : ℕ) (taken : List Event) (w v : World) : Type 0 where
  pub can : GroupCanRecover n w
  pub who_is : let s = can.settles in s.who ≡ who
  pub world_is : let s = can.settles in s.world ≡ v
  pub restarts_are : group_restarts_of w can.restarts can.world can.restarted ≡ map restart_of (downs n (raft_of w))
  pub taken_are : let s = can.settles in
      taken ≡ map restart_of (downs n (raft_of w)) ++ group_events_of s.who can.world s.timeouts s.beats s.world s.recovery

-- each server, up or down, has room for two more terms and entries
abbrev pub GroupAllHaveRoom : GroupView → Type 0
GroupAllHaveRoom view = InGroupRuns view (λ w. HasRoom (length view.servers) everybody (raft_of w))

abbrev pub GroupSomeLackRoom : GroupView → Type 0
GroupSomeLackRoom view = InGroupRuns view (λ w. HasRoom (length view.servers) everybody (raft_of w) → ⊥)

-- Why a group is not settled with all its servers, and what happened to it. Memory was wanting for a
-- restart, or once all were up; there is a quorum always.
abbrev pub WhyGroupAllUnsettled : GroupView → GroupView → Unsettled → Type 0
WhyGroupAllUnsettled old new NoQuorum = ⊥
WhyGroupAllUnsettled old new Exhausted = GroupSomeLackRoom old × (new ≡ old)
WhyGroupAllUnsettled old new NoMemory = GroupAllHaveRoom old × GroupGoes old new (λ taken w v.
    ((who : ℕ) × GroupRestartedUntil (length old.servers) who taken w v)
    ⊎ GroupRestartedThen (length old.servers) (λ calm x y. GroupBegan calm x y) taken w v)
WhyGroupAllUnsettled old new (Crashed who) = GroupAllHaveRoom old × GroupGoes old new (λ taken w v.
    GroupRestartedUntil (length old.servers) who taken w v
    ⊎ GroupRestartedThen (length old.servers) (λ calm x y. GroupFell who calm x y) taken w v)

-- or it is, and this server leads
pub record AreGroupSettled (old new : GroupView) (who : ℕ) : Type 0 where
  pub room : GroupAllHaveRoom old
  pub went : GroupGoes old new (λ taken w v. GroupRecovers (length old.servers) who taken w v)
