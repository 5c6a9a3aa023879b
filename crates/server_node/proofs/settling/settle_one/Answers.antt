use Rattle.std.proofs.Common.{◌∙◌, ◌++◌, ◌∷◌, [], ap, append-nil, map, sym}
use Rattle.journal.specs.Savings.{output_event}
use Rattle.server_node.specs.Answers.{answer, placed_text, proposal_word}
use Rattle.server_node.proofs.HandedIn.{none_put}
use Rattle.server_node.proofs.Tickets.{settles_not, settles_one}
use Rattle.server_node.proofs.settling.settle_one.Goals as goal

pub returns-then-is_settled : goal.returns-then-is_settled
returns-then-is_settled c =
    let a = c.args.ticket in
    let status = c.proposal_status-status.result in
    let event = answer a.id (placed_text (proposal_word status) a.index a.term) in
    let text = c.in_ok-text.ensures ∙ ap (λ w. placed_text w c.get.result c.get-then-is_settled.result) c.proposal_word.ensures ∙ ap (λ n. placed_text (proposal_word status) n c.get-then-is_settled.result) c.get.ensures.value ∙ ap (λ n. placed_text (proposal_word status) a.index n) c.get-then-is_settled.ensures.value in (
      event ∷ [],
      [],
      settles_one c.args.server.now a status c.proposal_status-status.ensures (sym c.if-is_settled.ensures),
      c.in_ok-put_answer.ensures ∙ ap (λ t. map output_event c.args.answers.now.items ++ answer a.id t ∷ []) (c.as_slice.ensures.value ∙ text),
      sym (append-nil c.args.unsettled.now.items),
    )

pub returns : goal.returns
returns c =
    let a = c.args.ticket in (
      [],
      a ∷ [],
      settles_not c.args.server.now a c.proposal_status-status.result c.proposal_status-status.ensures (sym c.if-is_settled.ensures),
      none_put c.args.answers.now.items,
      c.in_ok-push.ensures.items,
    )
