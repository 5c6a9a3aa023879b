use Rattle.std.proofs.Common.{rules, not}
use Rattle.std.proofs.lemmas.Fn.{filter_same}
use Rattle.fsm_model.specs.Words.{same_alloc}
use Rattle.group_model.specs.Agents.{Running}
use Rattle.client_agent.proofs.running.stop.Goals as goal

pub returns : goal.returns
returns c = filter_same _ (λ (r : Running). not (same_alloc r.id c.args.id.now)) _ (λ x b f' k. search rules) _ _ c.retain.ensures.filtered
