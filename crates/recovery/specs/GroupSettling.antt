-- What settles a whole group, and what keeps it from that.
use Rattle.std.specs.Prelude.{◌≡◌, ℕ, Bool, List, [], ◌∷◌, ◌++◌, Some, Ok, length}
use Rattle.raft_model.specs.Quorums.{Quorum}
use Rattle.raft_progress.specs.Recovery.{HasRoom}
use Rattle.group_model.specs.Inputs as inputs
use Rattle.group_model.specs.Worlds.{World, Event, Deliver, AtServer, happens, crash_of, raft_of}
use Rattle.group_progress.specs.GroupRecovery.{GroupRecovery, no_event, a_delivery, a_timeout, a_beat, GroupCanSettle}
use Rattle.world.specs.GroupView.{GroupView, GroupRunsTo, nodes_of}
use Rattle.world.specs.GroupSteps.{OutOfMemoryMayEndAt}
use Rattle.recovery.specs.declared.unsettled.Unsettled.{Unsettled}
use Rattle.recovery.specs.declared.unsettled.Unsettled.TheVariants.{NoQuorum, Exhausted, NoMemory, Crashed}
use Rattle.recovery.specs.Runs.{is_up_in}

-- ---- the events

-- the events of a recovery of the group, in order
unfoldable pub group_events_of : (i : ℕ) (w : World) (t b : ℕ) (v : World) →
    GroupRecovery i w t b v → List Event
group_events_of i w t b v no_event = []
group_events_of i w t b v (a_delivery {t = t1} {b = b1} {x = x} place y r new is h) =
    group_events_of i w t1 b1 x r ++ Deliver place ∷ []
group_events_of i w t b v (a_timeout {t = t1} {b = b1} {x = x} y r is h) =
    group_events_of i w t1 b1 x r ++ AtServer i inputs.Timeout ∷ []
group_events_of i w t b v (a_beat {t = t1} {b = b1} {x = x} y r is h) =
    group_events_of i w t1 b1 x r ++ AtServer i inputs.Beat ∷ []

-- whether server j is up in this world
abbrev pub is_server_up : World → ℕ → Bool
is_server_up w j = is_up_in (raft_of w) j

-- These events settle the servers that are up, as `never_stuck` says that some do: this one of them
-- leads, with an open desk, and has committed its whole log, which has all that it had; and each of
-- them has applied as much. They are timeouts and beats of it, within the bounds, and deliveries of
-- what was sent meanwhile.
pub record GroupSettles (n who : ℕ) (taken : List Event) (w v : World) : Type 0 where
  pub can : GroupCanSettle n (is_server_up w) w
  pub who_is : can.who ≡ who
  pub world_is : can.world ≡ v
  pub taken_are : group_events_of can.who w can.timeouts can.beats can.world can.recovery ≡ taken

-- some such events alone
pub record GroupBegan (taken : List Event) (w v : World) : Type 0 where
  pub who : ℕ
  pub timeouts : ℕ
  pub beats : ℕ
  pub recovery : GroupRecovery who w timeouts beats v
  pub taken_are : group_events_of who w timeouts beats v recovery ≡ taken

-- After calm events, in place of a further one, the crash of the server that took it: it may have
-- wanted memory for it.
pub record GroupFell (who : ℕ) (taken : List Event) (w v : World) : Type 0 where
  pub before : World
  pub calm : List Event
  pub began : GroupBegan calm w before
  pub event : Event
  pub actor : crash_of before event ≡ Some (AtServer who inputs.Crash)
  pub lacking : OutOfMemoryMayEndAt before event
  pub crash : happens before (AtServer who inputs.Crash) ≡ Ok v
  pub taken_are : taken ≡ calm ++ AtServer who inputs.Crash ∷ []

-- ---- the value

-- By these events, which its trace has, each run of the old value goes on to one of the new; R
-- tells of its last world before and after. What came for workers, and was not fetched yet, is as
-- before.
pub record GroupGoesOn (old new : GroupView) (taken : List Event) (R : World → World → Type 0)
    : Type 0 where
  pub size : length new.servers ≡ length old.servers
  pub nodes : nodes_of new ≡ nodes_of old
  pub work : new.outbox.work ≡ old.outbox.work
  pub trace : new.trace ≡ old.trace ++ taken
  pub runs : (past : List World) (w : World) → GroupRunsTo old past w →
      (later : List World) × (v : World) × GroupRunsTo new (past ++ later) v × R w v

abbrev pub GroupGoes : GroupView → GroupView → (List Event → World → World → Type 0) → Type 0
GroupGoes old new R = (taken : List Event) × GroupGoesOn old new taken (λ w v. R taken w v)

-- P holds of the world that each run of the value leads to
abbrev pub InGroupRuns : GroupView → (World → Type 0) → Type 0
InGroupRuns view P = (past : List World) (w : World) → GroupRunsTo view past w → P w

-- a quorum is up, and whoever is up has room for two more terms and entries
abbrev pub GroupHasQuorum : GroupView → Type 0
GroupHasQuorum view = InGroupRuns view (λ w. Quorum (length view.servers) (is_server_up w))

abbrev pub GroupHasRoom : GroupView → Type 0
GroupHasRoom view =
    InGroupRuns view (λ w. HasRoom (length view.servers) (is_server_up w) (raft_of w))

abbrev pub GroupLacksQuorum : GroupView → Type 0
GroupLacksQuorum view =
    InGroupRuns view (λ w. Quorum (length view.servers) (is_server_up w) → ⊥)

abbrev pub GroupLacksRoom : GroupView → Type 0
GroupLacksRoom view =
    InGroupRuns view (λ w. HasRoom (length view.servers) (is_server_up w) (raft_of w) → ⊥)

-- why a group is not settled, and what happened to it
abbrev pub WhyGroupUnsettled : GroupView → GroupView → Unsettled → Type 0
WhyGroupUnsettled old new NoQuorum = GroupLacksQuorum old × (new ≡ old)
WhyGroupUnsettled old new Exhausted = GroupHasQuorum old × GroupLacksRoom old × (new ≡ old)
WhyGroupUnsettled old new NoMemory =
    GroupHasQuorum old × GroupHasRoom old × GroupGoes old new (λ taken w v. GroupBegan taken w v)
WhyGroupUnsettled old new (Crashed who) =
    GroupHasQuorum old × GroupHasRoom old × GroupGoes old new (λ taken w v. GroupFell who taken w v)

-- or it is, and this server leads
pub record IsGroupSettled (old new : GroupView) (who : ℕ) : Type 0 where
  pub quorum : GroupHasQuorum old
  pub room : GroupHasRoom old
  pub went : GroupGoes old new (λ taken w v. GroupSettles (length old.servers) who taken w v)
