use Rattle.std.proofs.Common.{◌≡◌, ◌∙◌, ◌++◌, ◌∷◌, [], OnOk, map, subst}
use Rattle.wire.specs.Frames.{sized}
use Rattle.journal.specs.Events.{BytesSent}
use Rattle.journal.specs.Savings.{output_event}
use Rattle.server_node.proofs.answers.put_answer.Goals as goal

pub returns : goal.returns
returns c =
    subst (λ t. OnOk c.put_item.result (map output_event c.put_item.new.outs.items ≡ map output_event c.args.outs.now.items ++ BytesSent (sized t) ∷ []))
    (c.as_slice.ensures.value ∙ c.in_ok-bytes.ensures) c.put_item.ensures
