use Rattle.std.proofs.Common.{map, subst}
use Rattle.std.proofs.lemmas.Result.{on_ok_weaker}
use Rattle.journal.specs.Savings.{output_event}
use Rattle.example_bank_server.proofs.Handing.{Made, shown_made}
use Rattle.example_bank_server.proofs.node.Node.show.Goals as goal

pub returns : goal.returns
returns g c =
    let m = g.M.Machine.spec in
    let words = g.M.Words.words in
    let reason = g.M.Words.reason in
    let item = c.args.item.now in
    let before = map output_event c.args.outs.now.items in
    let after = map output_event c.put_line.new.outs.items in
    on_ok_weaker c.put_line.result
    (λ put. subst (λ v. Made m item words reason v v before after) c.self.view_is
    (shown_made m item words reason c.self.inside.server c.in_ok-line.line.items before after c.requires c.in_ok-line.ensures put))
    c.put_line.ensures
