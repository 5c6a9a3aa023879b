use Rattle.std.proofs.Common.{◌∙◌, ap}
use Rattle.example_bank_server.specs.Lines.{role_word}
use Rattle.example_bank_server.proofs.Telling.{line_put}
use Rattle.example_bank_server.proofs.lines.status_line.Goals as goal

pub returns : goal.returns
returns g c =
    let start = c.new-line.result.items in
    let one = c.put_server.new.line.items in
    let two = c.put_state.new.line.items in
    let all = c.push.new.self.items in
    let role = c.role_word-role.ensures ∙ ap role_word c.role.ensures.shown in
    let term = c.get-term.ensures.value ∙ c.term.ensures.shown in
    let last = c.get-last.ensures.value ∙ c.last.ensures.shown in
    line_put g.M.Machine.spec g.M.Words.words c.args.server.now c.me-me.result c.get-term.result c.get-last.result c.role_word-role.result.now start one two all c.me-me.ensures role term
    last c.new-line.ensures.items c.in_ok-put_server.ensures c.in_ok-put_state.ensures c.in_ok-push.ensures.items
