-- Which servers are up, and what a run comes to by timeouts and beats of one server and deliveries.
use Rattle.std.specs.Prelude.{◌≡◌, ℕ, Bool, false, Option, Some, None, List, [], ◌∷◌, ◌++◌, slice_get}
use Rattle.machine_model.specs.MachineSpec.{MachineSpec}
use Rattle.raft_model.specs.Rafts.{Raft, is_up}
use Rattle.raft_model.specs.Worlds.{World, Event, Deliver, TimesOut, Beats}
use Rattle.raft_progress.specs.Recovery.{Recovery, no_event, a_delivery, a_timeout, a_beat, CanSettle}

-- a server that is there and up
abbrev pub up_there : {C : Type 0} → Option (Raft C) → Bool
up_there None = false
up_there (Some s) = is_up s.mode

-- whether server j is up in this world
abbrev pub is_up_in : {C : Type 0} → World C → ℕ → Bool
is_up_in w j = up_there (slice_get w.servers j)

-- the events of a recovery, in order
unfoldable pub events_of : {S C : Type 0} (m : MachineSpec S C) (i : ℕ) (w : World C) (t b : ℕ) (v : World C) → Recovery m i w t b v → List (Event C)
events_of m i w t b v no_event = []
events_of m i w t b v (a_delivery {t = t1} {b = b1} {x = x} place y r new h) = events_of m i w t1 b1 x r ++ Deliver place ∷ []
events_of m i w t b v (a_timeout {t = t1} {b = b1} {x = x} y r h) = events_of m i w t1 b1 x r ++ TimesOut i ∷ []
events_of m i w t b v (a_beat {t = t1} {b = b1} {x = x} y r h) = events_of m i w t1 b1 x r ++ Beats i ∷ []

-- These events settle the servers that are up, as `never_stuck` says that some do: this one of them
-- leads and has committed its whole log, which has all that it had, and each of them has applied as
-- much. They are timeouts and beats of it, within the bounds, and deliveries of what was sent
-- meanwhile.
pub record Settles {S C : Type 0} (m : MachineSpec S C) (n who : ℕ) (taken : List (Event C)) (w v : World C) : Type 0 where
  pub can : CanSettle m n (is_up_in w) w
  pub who_is : can.who ≡ who
  pub world_is : can.world ≡ v
  pub taken_are : events_of m can.who w can.timeouts can.beats can.world can.recovery ≡ taken

-- some such events alone
pub record Began {S C : Type 0} (m : MachineSpec S C) (taken : List (Event C)) (w v : World C) : Type 0 where
  pub who : ℕ
  pub timeouts : ℕ
  pub beats : ℕ
  pub recovery : Recovery m who w timeouts beats v
  pub taken_are : events_of m who w timeouts beats v recovery ≡ taken
