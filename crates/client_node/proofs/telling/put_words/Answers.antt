use Rattle.std.proofs.Common.{map}
use Rattle.journal.specs.Savings.{output_event}
use Rattle.client_node.proofs.Told.{said_more}
use Rattle.client_node.proofs.telling.put_words.Goals as goal

pub loop-id-preserved : goal.loop-id-preserved
loop-id-preserved c =
    said_more c.args.word.now c.args.others.now c.args.ids.now c.loop-id.id-index c.id-item.result (map output_event c.args.outs.now.items) (map output_event c.loop-id.outs.items)
    (map output_event c.put_word_unless.new.outs.items) c.loop-id-test.true c.id-item.is c.loop-id.invariant c.in_ok-put_word_unless.ensures
