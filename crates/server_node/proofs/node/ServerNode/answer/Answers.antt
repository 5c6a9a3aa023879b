use Rattle.std.proofs.Common.{◌≡◌, ◌∙◌, ◌++◌, ◌∷◌, [], ap, map, subst}
use Rattle.std.proofs.lemmas.Result.{on_ok_weaker}
use Rattle.journal.specs.Savings.{output_event}
use Rattle.group_model.specs.Servers.{Server}
use Rattle.raft_core.specs.Tickets.{proposal_status_of}
use Rattle.server.specs.ServerViews.{RefinesServer}
use Rattle.server_node.specs.Answers.{answer, placed_text, proposal_word}
use Rattle.server_node.specs.Nodes.{NodeView}
use Rattle.server_node.proofs.Serving.{question_told}
use Rattle.server_node.proofs.node.ServerNode.answer.Goals as goal

pub returns : goal.returns
returns c = on_ok_weaker c.put_answer.result
    (λ put change frames.
    let status = c.proposal_status.result in
    let index = c.args.index in
    let term = c.args.term in
    let text = c.in_ok-text.ensures ∙ ap (λ w. placed_text w c.get.result c.get-2.result) c.proposal_word-word.ensures ∙ ap (λ n. placed_text (proposal_word status) n c.get-2.result) c.get.ensures.value ∙ ap (λ n. placed_text (proposal_word status) index n) c.get-2.ensures.value in
    question_told c.args.item.now c.args.self.now c.args.answers.now.items c.put_answer.new.outs.items change frames c.args.id index term status c.requires
    (subst (λ (v : NodeView). (s : Server) → RefinesServer v.server s → status ≡ proposal_status_of s.raft index term) c.self.view_is c.proposal_status.ensures)
    (put ∙ ap (λ t. map output_event c.args.answers.now.items ++ answer c.args.id t ∷ []) (c.as_slice.ensures.value ∙ text)))
    c.put_answer.ensures
