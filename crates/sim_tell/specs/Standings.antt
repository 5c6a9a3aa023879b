-- How actors of a group stand.
use Rattle.std.specs.Prelude.{ℕ, Bool, true, false, Option, Some, None, option_map, is_some, if◌then◌else◌, length, slice_get}
use Rattle.rows.specs.declared.actor.Actor.{Actor}
use Rattle.rows.specs.declared.actor.Actor.TheVariants as actors
use Rattle.raft_model.specs.Rafts.{is_up}
use Rattle.raft_core.specs.declared.role.Role.{Role}
use Rattle.raft_core.specs.declared.role.Role.TheVariants as roles
use Rattle.raft_core.specs.Steps.{role_of}
use Rattle.client_agent.specs.AgentView.{AgentView}
use Rattle.server.specs.ServerViews.{ServerView}
use Rattle.world.specs.GroupView.{GroupView, client_view}
use Rattle.sim_tell.specs.declared.standing.ClientStanding.{ClientStanding}
use Rattle.sim_tell.specs.declared.standing.ServerStanding.{ServerStanding}
use Rattle.sim_tell.specs.declared.standing.Standing.{Standing}
use Rattle.sim_tell.specs.declared.standing.Standing.TheVariants as standings

-- an index, or 0
abbrev pub count_of : Option ℕ → ℕ
count_of None = 0
count_of (Some index) = index

-- what it does, its term, how many entries it has applied while it is up, and how many its log has
abbrev pub server_standing : ServerView → ServerStanding
server_standing view =
    let s = view.raft.server in
    record {
      role = role_of s.mode;
      term = s.term;
      applied = if is_up s.mode then s.commit else 0;
      last = length s.log;
    }

-- whether it is up, and the index of the list that it took last
abbrev pub client_standing : AgentView → ClientStanding
client_standing view = record {
  up = is_some view.client.life;
  seen = count_of (option_map (λ life. life.seen) view.client.life);
}

abbrev pub server_there : Option ServerView → Standing
server_there None = standings.None
server_there (Some view) = standings.Server (server_standing view)

abbrev pub client_there : Option AgentView → Standing
client_there None = standings.None
client_there (Some view) = standings.Client (client_standing view)

abbrev pub standing_in : GroupView → Option Actor → Standing
standing_in group None = standings.None
standing_in group (Some (actors.Server server)) = server_there (slice_get group.servers server)
standing_in group (Some (actors.Client client)) = client_there (client_view group.clients client)

abbrev pub leads : Option Role → Bool
leads None = false
leads (Some roles.Follower) = false
leads (Some roles.Candidate) = false
leads (Some roles.Leader) = true

abbrev pub same_role : Option Role → Option Role → Bool
same_role None None = true
same_role (Some roles.Follower) (Some roles.Follower) = true
same_role (Some roles.Candidate) (Some roles.Candidate) = true
same_role (Some roles.Leader) (Some roles.Leader) = true
same_role before after = false
