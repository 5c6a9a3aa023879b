-- What a contract sees of a client.
use Rattle.std.specs.Prelude.{◌≡◌, ℕ, None, List, ◌++◌}
use Rattle.rows.specs.declared.allocation.AllocId.{AllocId}
use Rattle.group_model.specs.Agents.{Agent}

-- how many servers its group has, and the client that it is
pub record AgentView : Type 0 where
  pub size : ℕ
  pub client : Agent

-- None is taken out of what it ever started: more may stand behind it.
abbrev pub StartsMore : AgentView → AgentView → Type 0
StartsMore old new = (more : List AllocId) × (new.client.started ≡ old.client.started ++ more)

-- what a crash leaves
abbrev pub crashed_agent : AgentView → AgentView
crashed_agent a = record a { client = record a.client { life = None } }
