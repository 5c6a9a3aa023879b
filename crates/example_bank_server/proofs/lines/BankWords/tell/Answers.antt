use Rattle.std.proofs.Common.{◌∙◌, ap, sym}
use Rattle.std.specs.Prelude.{codes, slice_get}
use Rattle.example_bank_server.proofs.Telling.{balances_more}
use Rattle.example_bank_server.proofs.lines.BankWords.tell.Goals as goal

pub loop-number-preserved : goal.loop-number-preserved
loop-number-preserved c =
    let balances = c.args.self.now.balances in
    let at = ap (slice_get balances) (sym c.new.ensures) ∙ sym c.balance.ensures ∙ c.in-Some.is in
    let put = c.in_ok-put_balance.ensures in
    balances_more balances c.loop-number.number c.in-Some.balance c.args.line.now.items c.loop-number.line.items c.put_balance.new.line.items (codes " balances") c.get.result at
    c.get.ensures.value c.loop-number.invariant put
