-- What is told of servers and of allocations, of all servers that a group's may be.
use Rattle.std.specs.Prelude.{ℕ, ◌++◌, Option, List, codes, decimal}
use Rattle.std.specs.Io.KnownBytes.{Appends}
use Rattle.std.specs.List.{AllZip, flat_map}
use Rattle.rows.specs.declared.allocation.Allocation.{Allocation}
use Rattle.raft_core.specs.declared.role.Role.{Role}
use Rattle.raft_core.specs.declared.role.Role.TheVariants.{Follower, Candidate, Leader}
use Rattle.group_model.specs.Servers.{Server}
use Rattle.server.specs.ServerViews.{ServerView, RefinesServer}
use Rattle.client_agent.specs.AgentView.{AgentView}
use Rattle.sim_ending.specs.Endings.{AreTold, client_line, numbered_lines, row_line, server_line}

-- this holds of all servers of the definitions that these are
abbrev pub OfServers : List ServerView → (List Server → Type 0) → Type 0
OfServers views P = (servers : List Server) → AllZip RefinesServer views servers → P servers

abbrev pub TellsServers : Option (List ℕ) → Option (List ℕ) → List Server → Type 0
TellsServers old new servers = Appends old new (numbered_lines server_line 1 servers)

abbrev pub TellsRows : Option (List ℕ) → Option (List ℕ) → List Server → Type 0
TellsRows old new servers = (rows : List Allocation) × AreTold servers rows × Appends old new (flat_map row_line rows)

-- what a server that is up is doing
abbrev pub role_words : Role → List ℕ
role_words Follower = codes "follower"
role_words Candidate = codes "candidate"
role_words Leader = codes "leader"

-- the line of a server that is down, and of one that is up
abbrev pub down_line : ℕ → ℕ → ℕ → List ℕ
down_line k term last =
    codes "server " ++ (decimal k ++ (codes " down term " ++ (decimal term ++ (codes " last " ++ (decimal last ++ codes "\n")))))

abbrev pub up_line : ℕ → Role → ℕ → ℕ → ℕ → List ℕ
up_line k role term last applied =
    codes "server " ++ (decimal k ++ (codes " " ++ (role_words role ++ (codes " term " ++ (decimal term
    ++ (codes " last " ++ (decimal last ++ (codes " applied " ++ (decimal applied ++ codes "\n")))))))))

abbrev pub agent_line : ℕ → AgentView → List ℕ
agent_line k a = client_line k a.client
