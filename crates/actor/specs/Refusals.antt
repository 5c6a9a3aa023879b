-- Why an actor refuses what comes, and where that may want memory.
use Rattle.std.specs.Prelude.{◌≡◌, Some, None}
use Rattle.rows.specs.declared.refusal.Refusal.{Refusal}
use Rattle.rows.specs.declared.refusal.Refusal.TheVariants as refusals
use Rattle.group_model.specs.Servers.{Server}
use Rattle.client_agent.specs.AgentView.{AgentView}
use Rattle.group_inputs.specs.declared.client_input.ClientInput.{ClientInput}
use Rattle.client_agent.specs.Refusals.{agent_refusal, AgentMayEndOutOfMemory}
use Rattle.server.specs.ServerViews.{ServerView, RefinesServer}
use Rattle.group_inputs.specs.Handings.{Handing}
use Rattle.server.specs.Refusals.{handing_refusal, MayEndOutOfMemory}

-- ---- what the definitions refuse

abbrev pub ServerRefuses : ServerView → Handing → Refusal → Type 0
ServerRefuses v h r = (s : Server) → RefinesServer v s → handing_refusal v.raft.size v.raft.me s h ≡ Some r

-- of none of the servers that it may be is this refused
abbrev pub ServerAdmits : ServerView → Handing → Type 0
ServerAdmits v h = (s : Server) → RefinesServer v s → handing_refusal v.raft.size v.raft.me s h ≡ None

abbrev pub ClientRefuses : AgentView → ClientInput → Refusal → Type 0
ClientRefuses a given r = agent_refusal a.size a.client given ≡ Some r

abbrev pub ClientAdmits : AgentView → ClientInput → Type 0
ClientAdmits a given = agent_refusal a.size a.client given ≡ None

-- Want of memory is answered where `lack` holds, any other refusal where it is one that is said.
abbrev pub RefusedSo : Type 0 → (Refusal → Type 0) → Refusal → Type 0
RefusedSo lack says refusals.NoMemory = lack
RefusedSo lack says cause = says cause

-- ---- want of memory

abbrev pub ServerMayEndOutOfMemory : ServerView → Handing → Type 0
ServerMayEndOutOfMemory v h = (s : Server) → RefinesServer v s → MayEndOutOfMemory v.raft.size s h

abbrev pub ClientMayEndOutOfMemory : AgentView → ClientInput → Type 0
ClientMayEndOutOfMemory a given = AgentMayEndOutOfMemory a.size a.client given
