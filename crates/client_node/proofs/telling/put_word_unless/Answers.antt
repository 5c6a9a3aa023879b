use Rattle.std.proofs.Common.{◌≡◌, ◌∙◌, ◌++◌, map, sym, subst, OnOk}
use Rattle.journal.specs.Savings.{output_event}
use Rattle.client_node.proofs.Told.{one_left_out, one_said}
use Rattle.client_node.proofs.telling.put_word_unless.Goals as goal

pub returns-then-is_among : goal.returns-then-is_among
returns-then-is_among c = one_left_out c.args.word.now c.args.others.now c.args.id.now (map output_event c.args.outs.now.items) (sym c.is_among.ensures ∙ c.if-is_among.true)

pub returns : goal.returns
returns c =
    let before = map output_event c.args.outs.now.items in
    subst (λ more. OnOk c.put_word.result (map output_event c.put_word.new.outs.items ≡ before ++ more))
    (one_said c.args.word.now c.args.others.now c.args.id.now (sym c.is_among.ensures ∙ c.if-is_among.false)) c.put_word.ensures
