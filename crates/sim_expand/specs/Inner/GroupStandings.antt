-- How the group of a play stands.
use Rattle.std.specs.Prelude.{◌≡◌, ◌⊎◌, ◌≤◌, ℕ, suc, nat_lt, length, slice_get, Option, Some, None, List, [], ◌∷◌, map}
use Rattle.std.specs.List.{flat_map}
use Rattle.rows.specs.declared.allocation.AllocId.{AllocId}
use Rattle.group_model.specs.Agents.{Life, Running}
use Rattle.client_agent.specs.AgentView.{AgentView}
use Rattle.server.specs.ServerViews.{ServerView}
use Rattle.workers.specs.PlanCounts.{WorkersView}
use Rattle.sim_play.specs.declared.play.Play.{Play}
use Rattle.sim_expand.specs.declared.standing.ServerStanding.{ServerStanding}
use Rattle.sim_expand.specs.declared.standing.Standing.{Standing}
use Rattle.sim_expand.specs.Inner.Standings.{StandsSo}

-- the server at a place of a play stands so
pub record StandsAt (play : Play) (place : ℕ) (s : ServerStanding) : Type 0 where
  pub view : ServerView
  pub is : slice_get play.world.servers place ≡ Some view
  pub workers : WorkersView
  pub asks : slice_get play.workers place ≡ Some workers
  pub so : StandsSo place view (length workers.waiting) s

-- those from a place on stand so
abbrev pub StandFrom : Play → ℕ → List ServerStanding → Type 0
StandFrom play place [] = Unit {0}
StandFrom play place (s ∷ servers) = StandsAt play place s × StandFrom play (suc place) servers

-- there is none: a group has five at most
abbrev pub NoServerAt : Play → ℕ → Type 0
NoServerAt play place = (5 ≤ place) ⊎ (slice_get play.world.servers place ≡ None)

-- ---- what runs

abbrev pub running_id : Running → AllocId
running_id r = r.id

abbrev pub running_in : Option Life → List AllocId
running_in None = []
running_in (Some l) = map running_id l.running

-- what runs at a client; nothing does at one that is down
abbrev pub running_at : AgentView → List AllocId
running_at a = running_in a.client.life

-- ---- a group

pub record GroupStandsSo (play : Play) (s : Standing) : Type 0 where
  pub count : length s.servers.items ≡ length play.world.servers
  pub each : StandFrom play 0 s.servers.items
  pub running : s.running.items ≡ flat_map running_at play.world.clients
  pub in_flight : s.in_flight ≡ nat_lt 0 (length play.flight.waiting)
