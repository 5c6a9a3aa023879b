-- A group that was brought back.
use Rattle.std.specs.Prelude.{◌≡◌, ◌++◌, ℕ, List, length}
use Rattle.std.specs.List.{AllByRecursion}
use Rattle.rows.specs.declared.node.NodeSpec.{NodeSpec}
use Rattle.group_model.specs.Worlds.{Event}
use Rattle.world.specs.GroupView.{GroupView}
use Rattle.recovery.specs.GroupRestarting.{AreGroupSettled}
use Rattle.sim_recovery.specs.declared.recovering.Back.{Back}
use Rattle.sim_recovery.specs.Inner.Steps.{IsWayStep}
use Rattle.sim_recovery.specs.Recoveries.{IsMoment}

-- by these events of a way back, behind so many others
pub record CameBy (before : ℕ) (taken : List Event) (group : GroupView) : Type 0 where
  pub old : List Event
  pub count : before ≡ length old
  pub trace : group.trace ≡ old ++ taken
  pub steps : AllByRecursion IsWayStep taken

-- it was brought back from where it stood after these events of a run
pub record IsBack (servers : ℕ) (nodes : List NodeSpec) (events : List Event) (b : Back) : Type 0 where
  pub group : GroupView
  pub moment : IsMoment servers nodes events group
  pub settled : AreGroupSettled group b.world b.leader
  pub taken : List Event
  pub trace : let back = b.world in back.trace ≡ group.trace ++ taken
  pub came : CameBy b.before taken b.world
