use Rattle.std.proofs.Common.{◌≡◌, ◌∙◌, ap, arith, map, subst}
use Rattle.std.proofs.lemmas.Result.{on_ok_weaker}
use Rattle.journal.specs.Savings.{output_event}
use Rattle.example_bank_server.specs.Lines.{ticket_line}
use Rattle.example_bank_server.proofs.Handing.{Made, on_ok_both, proposal_declined, proposed_made, read_declined, refused_made}
use Rattle.example_bank_server.proofs.node.Node.propose.Goals as goal
use Rattle.example_bank_server.proofs.node.Node.propose.Goals.{in-Ok-propose+in_ok-line-in-Ok-propose, in-Err-propose}

pub returns-in-Err-clause-turn : goal.returns-in-Err-clause-turn
returns-in-Err-clause-turn g c =
    let m = g.M.Machine.spec in
    let item = c.args.item.now in
    let view = c.args.self.now in
    let cause = c.in-Err.refusal in
    on_ok_both c.decline.result
    (λ is put. refused_made m item g.M.Words.words g.M.Words.reason view view cause (map output_event c.args.outs.now.items) (map output_event c.decline.new.outs.items) c.requires.other is
    (read_declined m item c.behind_first.result.now view cause c.requires.is c.behind_first.ensures c.in-Err.ensures) put)
    c.decline.ensures.other c.decline.ensures.line

pub returns-clause-turn : goal.returns-clause-turn
returns-clause-turn g c =
    let m = g.M.Machine.spec in
    let words = g.M.Words.words in
    let reason = g.M.Words.reason in
    let item = c.args.item.now in
    let text = c.behind_first.result.now in
    let command = c.in-Ok.command in
    let old = c.self.inside.server in
    let new = c.propose.new.self in
    let before = map output_event c.args.outs.now.items in
    elim c.match-propose.branch [
      | in-Ok-propose+in_ok-line-in-Ok-propose w ↦
          let at = w.in-Ok-propose.ticket in
          let line = w.in_ok-line-in-Ok-propose.line.items in
          let line_is : line ≡ ticket_line at.index at.term =
          w.in_ok-line-in-Ok-propose.ensures ∙ ap (λ n. ticket_line n w.get-in-Ok-propose.result) w.get.ensures.value ∙ ap (λ n. ticket_line at.index n) w.get-in-Ok-propose.ensures.value in
          let after = map output_event w.put_line.new.outs.items in
          let made = on_ok_weaker w.put_line.result
          (λ put. subst (λ v. Made m item words reason v new before after) c.self.view_is
          (proposed_made m item words reason old new text line command at.index at.term before after c.requires.is c.behind_first.ensures c.in-Ok.ensures (λ i. omega (arith, c.type_inv.item i)) w.in-Ok-propose.ensures.same w.in-Ok-propose.ensures.shown w.in-Ok-propose.ensures.taken
          w.in-Ok-propose.ensures.ticket line_is put))
          w.put_line.ensures in
          rw (w.result-is, w.outs-is) made
      | in-Err-propose w ↦
          let cause = w.in-Err-propose.refusal in
          let after = map output_event w.decline-in-Err-propose.new.outs.items in
          let made = on_ok_both w.decline-in-Err-propose.result
          (λ is put. subst (λ v. Made m item words reason v new before after) c.self.view_is
          (refused_made m item words reason old new cause before after c.requires.other is
          (proposal_declined m item text command old new c.requires.is c.behind_first.ensures c.in-Ok.ensures cause w.in-Err-propose.ensures.unchanged w.in-Err-propose.ensures.refused)
          put))
          w.decline-in-Err-propose.ensures.other w.decline-in-Err-propose.ensures.line in
          rw (w.result-is, w.outs-is) made
    ]
