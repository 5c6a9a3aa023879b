use Rattle.std.proofs.Common.{◌∙◌, sym}
use Rattle.std.proofs.lemmas.Result.{on_ok_weaker}
use Rattle.example_bank_server.proofs.Telling.{state_put}
use Rattle.example_bank_server.proofs.lines.put_state.Goals as goal

pub returns : goal.returns
returns g c =
    let old = c.args.line.now.items in
    let mid = c.put_applied.new.line.items in
    let applied = c.get.ensures.value ∙ c.in-Some-applied.ensures.shown.1 in
    on_ok_weaker c.tell.result
    (λ line. state_put g.M.Machine.spec g.M.Words.words c.args.server.now c.in-Some.machine.now c.get.result old mid c.tell.new.line.items (sym c.in-Some.ensures.shown)
    (λ s is. (c.in-Some.ensures.value s is).1) applied c.in_ok-put_applied.ensures line)
    c.tell.ensures
