-- A scenario's group, before its first step.
use Rattle.std.specs.Prelude.{◌≡◌, ◌≤◌, false, List, [], length, replicate}
use Rattle.world.specs.GroupSteps.{IsNewGroup}
use Rattle.rows.specs.GroupSizes.{IsGroup}
use Rattle.rows.specs.declared.node.NodeSpec.{NodeSpec}
use Rattle.sim_scenario.specs.declared.scenario.Settings.{Settings}
use Rattle.sim_play.specs.declared.play.Play.{Play}

-- there is a group of this size
abbrev pub MakesGroup : Settings → List NodeSpec → Type 0
MakesGroup s nodes = IsGroup s.servers × (length nodes ≤ 64)

-- a group of its size that never did anything, nothing in flight, nothing for workers, no memory
-- lacked, and what becomes of messages as it says
pub record IsNewPlay (s : Settings) (nodes : List NodeSpec) (p : Play) : Type 0 where
  pub world : IsNewGroup s.servers nodes p.world
  pub waiting : p.flight.waiting ≡ []
  pub seen : p.flight.seen ≡ 0
  pub workers : p.workers ≡ replicate 5 (record { waiting = []; plans = [] })
  pub key : p.fates.key ≡ s.key
  pub drawn : p.fates.drawn ≡ 0
  pub order : p.order ≡ s.order
  pub lost : p.drop ≡ s.drop
  pub repeated : p.repeat ≡ s.repeat
  pub lacked : p.lacked ≡ false
