use Rattle.std.proofs.Common.{rules}
use Rattle.std.proofs.lemmas.Fn.{filter_same}
use Rattle.group_model.specs.Agents.{Running, is_shown}
use Rattle.client_agent.proofs.running.keep_shown.Goals as goal

pub returns : goal.returns
returns c = filter_same _ (λ (r : Running). is_shown c.args.rows.now r.id) _ (λ x b f' k. search rules) _ _ c.retain.ensures.filtered
