use Rattle.std.proofs.Common.{map, subst}
use Rattle.std.proofs.lemmas.Result.{on_ok_weaker}
use Rattle.journal.specs.Savings.{output_event}
use Rattle.example_bank_server.proofs.Handing.{Made, on_ok_both, question_is_other, refused_made, ticket_declined, told_made}
use Rattle.example_bank_server.proofs.node.Node.answer.Goals as goal

pub returns-in_ok-line-in-Ok : goal.returns-in_ok-line-in-Ok
returns-in_ok-line-in-Ok g c =
    let m = g.M.Machine.spec in
    let words = g.M.Words.words in
    let reason = g.M.Words.reason in
    let item = c.args.item.now in
    let before = map output_event c.args.outs.now.items in
    let after = map output_event c.put_line.new.outs.items in
    on_ok_weaker c.put_line.result
    (λ put. subst (λ v. Made m item words reason v v before after) c.self.view_is
    (told_made m item words reason c.self.inside.server c.behind_first.result.now c.in_ok-line-in-Ok.line.items c.proposal_word-word.result.now _ c.get.result c.get-in-Ok.result c.proposal_status.result before after
    c.requires c.behind_first.ensures c.in-Ok.ensures c.get.ensures.value c.get-in-Ok.ensures.value c.proposal_status.ensures.value c.proposal_word-word.ensures c.in_ok-line-in-Ok.ensures put))
    c.put_line.ensures

pub returns-in-Err : goal.returns-in-Err
returns-in-Err g c =
    let m = g.M.Machine.spec in
    let item = c.args.item.now in
    let view = c.args.self.now in
    let cause = c.in-Err.refusal in
    on_ok_both c.decline.result
    (λ is put. refused_made m item g.M.Words.words g.M.Words.reason view view cause (map output_event c.args.outs.now.items) (map output_event c.decline.new.outs.items) (question_is_other item c.requires) is
    (ticket_declined m item c.behind_first.result.now view cause c.requires c.behind_first.ensures c.in-Err.ensures) put)
    c.decline.ensures.other c.decline.ensures.line
