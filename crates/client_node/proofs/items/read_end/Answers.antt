use Rattle.std.proofs.Common.{subst, sym}
use Rattle.client_node.specs.Inner.Lines.{IsReadAs}
use Rattle.client_node.proofs.ReadItems.{apart, end_read, no_end_read}
use Rattle.client_node.proofs.items.read_end.Goals as goal

pub returns-then-not-begins_with : goal.returns-then-not-begins_with
returns-then-not-begins_with c = λ id well is. apart _ (sym c.if-not-begins_with.ensures) is.letter

pub returns-in-Some : goal.returns-in-Some
returns-in-Some c =
    end_read c.args.me c.args.item.now c.behind_first.result.now c.in-Some.event c.end_of.result (sym c.if-not-begins_with.ensures) c.behind_first.ensures (subst (IsReadAs c.behind_first.result.now) c.in-Some.is c.in_ok-event.ensures) c.end_of.ensures

pub returns-in-None : goal.returns-in-None
returns-in-None c = no_end_read c.args.me c.args.item.now c.behind_first.result.now c.behind_first.ensures (subst (IsReadAs c.behind_first.result.now) c.in-None.is c.in_ok-event.ensures)
