-- What brings the group of a run back from some moment of it.
use Rattle.std.specs.Prelude.{◌≡◌, ◌⊎◌, ◌+◌, ◌++◌, ◌∷◌, ◌==◌, ◌%◌, ℕ, List, [], Option, filter, length, map, string_bytes, take}
use Rattle.std.specs.List.{AllByRecursion, AllZip, range_with_len}
use Rattle.rows.specs.declared.node.NodeSpec.{NodeSpec}
use Rattle.group_model.specs.Worlds.{Event}
use Rattle.world.specs.GroupSteps.{IsNewGroup}
use Rattle.world.specs.GroupView.{GroupView}
use Rattle.sim_playback.specs.Taking.{Took}
use Rattle.event_texts.specs.EventLines.{HasLine, event_line}
use Rattle.recovery.specs.GroupSettling.{GroupLacksQuorum, GroupLacksRoom, IsGroupSettled}
use Rattle.recovery.specs.GroupRestarting.{AreGroupSettled, GroupSomeLackRoom}
use Rattle.sim_recovery.specs.declared.counts.Counts.{Counts}
use Rattle.sim_recovery.specs.declared.recovering.Recovery.{Recovery}
use Rattle.sim_recovery.specs.declared.table.WayRow.{WayRow}
use Rattle.sim_recovery.specs.declared.table.Table.{Table}
use Rattle.sim_recovery.specs.Farthest.{IsFarthest}
use Rattle.sim_recovery.specs.Steps.{AreCounts}

-- ---- a moment of a run

-- each of these events came to the group in turn, which took it or refused it
abbrev pub AllCame : List Event → GroupView → GroupView → Type 0
AllCame [] old new = new ≡ old
AllCame (event ∷ events) old new =
    (answer : Option ℕ) × (between : GroupView) × Took old event answer between × AllCame events between new

-- A group of so many servers, and of these nodes' clients, stands so after these events.
pub record IsMoment (servers : ℕ) (nodes : List NodeSpec) (events : List Event) (group : GroupView) : Type 0 where
  pub first : GroupView
  pub begun : IsNewGroup servers nodes first
  pub came : AllCame events first group

-- ---- from there

-- These events bring the group back: by them its servers are settled, those that were down too, and
-- this one leads.
pub record BringsBack (group : GroupView) (who : ℕ) (taken : List Event) : Type 0 where
  pub back : GroupView
  pub settled : AreGroupSettled group back who
  pub trace : back.trace ≡ group.trace ++ taken

-- so they do with the group after these events of a run, and are so many
pub record IsWayBack (servers : ℕ) (nodes : List NodeSpec) (events : List Event) (who : ℕ) (counts : Counts) (taken : List Event) : Type 0 where
  pub group : GroupView
  pub moment : IsMoment servers nodes events group
  pub brings : BringsBack group who taken
  pub counted : AreCounts taken counts
  pub all : counts.events ≡ ((counts.restarts + counts.timeouts) + counts.beats) + counts.messages

-- what is told of that moment: the leader, the counts, and each of the events, by its line
pub record IsRecovery (servers : ℕ) (nodes : List NodeSpec) (events : List Event) (r : Recovery) : Type 0 where
  pub taken : List Event
  pub way : IsWayBack servers nodes events r.leader r.counts taken
  pub lines : map string_bytes r.lines.items ≡ map event_line taken

-- the group after these events has no room to be brought back
abbrev pub HasNoRoom : ℕ → List NodeSpec → List Event → Type 0
HasNoRoom servers nodes events =
    (group : GroupView) × IsMoment servers nodes events group × GroupSomeLackRoom group

-- ---- by those that are up alone

-- These events settle its servers that are up, of which this one leads.
pub record SettlesUp (group : GroupView) (who : ℕ) (taken : List Event) : Type 0 where
  pub back : GroupView
  pub settled : IsGroupSettled group back who
  pub trace : back.trace ≡ group.trace ++ taken
  pub lines : AllByRecursion HasLine taken

-- the lines of such events for the group after these events of a run; none where no quorum is up, or
-- one that is up lacks room
abbrev pub IsElection : ℕ → List NodeSpec → List Event → List (List ℕ) → Type 0
IsElection servers nodes events lines =
    (group : GroupView) × IsMoment servers nodes events group
    × (((who : ℕ) × (taken : List Event) × SettlesUp group who taken × (lines ≡ map event_line taken))
    ⊎ ((lines ≡ []) × (GroupLacksQuorum group ⊎ GroupLacksRoom group)))

-- ---- from many moments

-- after each so many of all events, from none on, and after all
abbrev pub moments_of : (every all : ℕ) → List ℕ
moments_of every all = filter (λ k. k % every == 0) (range_with_len 0 all) ++ all ∷ []

-- what is told of one of them: the counts
pub record IsWayRow (servers : ℕ) (nodes : List NodeSpec) (events : List Event) (after : ℕ) (row : WayRow) : Type 0 where
  pub is_after : row.after ≡ after
  pub who : ℕ
  pub taken : List Event
  pub way : IsWayBack servers nodes (take after events) who row.counts taken

-- a row for each of them, in their order
abbrev pub AreWayRows : ℕ → List NodeSpec → List Event → List ℕ → List WayRow → Type 0
AreWayRows servers nodes events moments rows = AllZip (IsWayRow servers nodes events) moments rows

-- what is told of all of them: the rows, and the farthest
pub record IsTable (servers : ℕ) (nodes : List NodeSpec) (events : List Event) (every : ℕ) (t : Table) : Type 0 where
  pub rows : AreWayRows servers nodes events (moments_of every (length events)) t.rows.items
  pub farthest : IsFarthest t.rows.items t.farthest

-- the group after some first events has no room to be brought back
abbrev pub HasNoRoomOnce : ℕ → List NodeSpec → List Event → Type 0
HasNoRoomOnce servers nodes events = (after : ℕ) × HasNoRoom servers nodes (take after events)
