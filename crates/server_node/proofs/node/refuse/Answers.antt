use Rattle.std.proofs.Common.{◌∙◌, ◌++◌, ◌∷◌, [], ap, map}
use Rattle.std.proofs.lemmas.Result.{on_ok_weaker}
use Rattle.journal.specs.Savings.{output_event}
use Rattle.server_node.specs.Answers.{answer}
use Rattle.server_node.proofs.node.refuse.Goals as goal

pub returns : goal.returns
returns c = on_ok_weaker c.put_answer.result (λ put. put ∙ ap (λ t. map output_event c.args.answers.now.items ++ answer c.args.id t ∷ []) (c.as_slice.ensures.value ∙ c.in_ok-text.ensures)) c.put_answer.ensures
