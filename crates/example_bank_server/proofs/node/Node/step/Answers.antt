use Rattle.std.proofs.Common.{arith, map, subst}
use Rattle.std.proofs.lemmas.Result.{on_ok_weaker}
use Rattle.raft_core.specs.Inputs.{handed}
use Rattle.journal.specs.Savings.{output_event}
use Rattle.example_bank_server.proofs.Handing.{Made, on_ok_both, refused_made, step_declined, taken_made}
use Rattle.example_bank_server.proofs.node.Node.step.Goals as goal

pub returns-in-Ok-clause-turn : goal.returns-in-Ok-clause-turn
returns-in-Ok-clause-turn g c =
    let m = g.M.Machine.spec in
    let words = g.M.Words.words in
    let reason = g.M.Words.reason in
    let item = c.args.item.now in
    let new = c.step.new.self in
    let before = map output_event c.args.outs.now.items in
    let after = map output_event c.put_frames.new.outs.items in
    on_ok_weaker c.put_frames.result
    (λ put. subst (λ v. Made m item words reason v new before after) c.self.view_is
    (taken_made m item words reason (handed c.input_of.result) c.self.inside.server new c.new-frames.result c.step.new.outbox before after c.requires.other c.requires.no_proposal
    c.requires.no_question c.input_of.ensures c.new-frames.ensures (λ i. omega (arith, c.type_inv.item i)) c.in-Ok.ensures.taken c.in-Ok.ensures.admitted c.in-Ok.ensures.same c.covered_is_committed.ensures put))
    c.put_frames.ensures

pub returns-clause-turn : goal.returns-clause-turn
returns-clause-turn g c =
    let m = g.M.Machine.spec in
    let words = g.M.Words.words in
    let reason = g.M.Words.reason in
    let item = c.args.item.now in
    let old = c.self.inside.server in
    let new = c.step.new.self in
    let cause = c.in-Err.refusal in
    let before = map output_event c.args.outs.now.items in
    let after = map output_event c.decline.new.outs.items in
    on_ok_both c.decline.result
    (λ is put. subst (λ v. Made m item words reason v new before after) c.self.view_is
    (refused_made m item words reason old new cause before after c.requires.other is
    (step_declined m item (handed c.input_of.result) old new c.requires.no_proposal c.input_of.ensures cause c.in-Err.ensures.stays c.in-Err.ensures.refused) put))
    c.decline.ensures.other c.decline.ensures.line
