-- What is reported of clients.
use Rattle.std.specs.Prelude.{◌≡◌, ℕ, Option, Some, None, List, [], is_some, map, option_map, string_bytes}
use Rattle.group_model.specs.Agents.{Life, Running}
use Rattle.client_agent.specs.AgentView.{AgentView}
use Rattle.sim_labels.specs.Words.{alloc_text}
use Rattle.sim_reports.specs.declared.report.ClientReport.{ClientReport}

abbrev pub running_text : Running → List ℕ
running_text one = alloc_text one.id

-- the ids of what it runs; nothing while it is down
abbrev pub texts_run : Option Life → List (List ℕ)
texts_run None = []
texts_run (Some life) = map running_text life.running

-- The report is of this client: whether it is up, what it runs, and what it ever started.
pub record IsClientReport (view : AgentView) (report : ClientReport) : Type 0 where
  pub client : report.client ≡ view.client.node.number
  pub up : report.up ≡ is_some view.client.life
  pub seen : report.seen ≡ option_map (λ life. life.seen) view.client.life
  pub running : map string_bytes report.running.items ≡ texts_run view.client.life
  pub started : map string_bytes report.started.items ≡ map alloc_text view.client.started
