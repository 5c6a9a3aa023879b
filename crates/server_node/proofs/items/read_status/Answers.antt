use Rattle.std.proofs.Common.{◌≡◌, Ok, subst, sym}
use Rattle.fields_model.specs.Format.{whole}
use Rattle.fields_model.specs.Fields.{u64}
use Rattle.server_node.proofs.ReadItems.{apart, refused_unread}
use Rattle.server_node.proofs.items.read_status.Goals as goal

pub returns-then-not-begins_with : goal.returns-then-not-begins_with
returns-then-not-begins_with c = λ id is. apart _ (sym c.if-not-begins_with.ensures) is.letter

pub returns-in-Ok : goal.returns-in-Ok
returns-in-Ok c = record { letter = sym c.if-not-begins_with.ensures; read = subst (λ t. whole u64 t ≡ Ok c.in-Ok.id) c.behind_first.ensures c.in-Ok.ensures }

pub returns-in-Err : goal.returns-in-Err
returns-in-Err c = λ id is. refused_unread c.in-Err.field-0 (whole u64 c.behind_first.result.now) id c.in-Err.ensures (subst (λ t. whole u64 t ≡ Ok id) (sym c.behind_first.ensures) is.read)
