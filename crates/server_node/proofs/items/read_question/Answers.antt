use Rattle.std.proofs.Common.{◌≡◌, Ok, subst, sym}
use Rattle.fields_model.specs.Format.{◌then◌, whole}
use Rattle.fields_model.specs.Fields.{index, term, u64}
use Rattle.server_node.proofs.ReadItems.{apart, refused_unread}
use Rattle.server_node.proofs.items.read_question.Goals as goal

pub returns-then-not-begins_with : goal.returns-then-not-begins_with
returns-then-not-begins_with c = λ id place its_term is. apart _ (sym c.if-not-begins_with.ensures) is.letter

pub returns-in-Ok : goal.returns-in-Ok
returns-in-Ok c = record { letter = sym c.if-not-begins_with.ensures; read = subst (λ t. whole (u64 then (index then term)) t ≡ Ok c.in-Ok.asked) c.behind_first.ensures c.in-Ok.ensures }

pub returns-in-Err : goal.returns-in-Err
returns-in-Err c = λ id place its_term is.
    refused_unread c.in-Err.field-0 (whole (u64 then (index then term)) c.behind_first.result.now) (id, (place, its_term)) c.in-Err.ensures
    (subst (λ t. whole (u64 then (index then term)) t ≡ Ok (id, (place, its_term))) (sym c.behind_first.ensures) is.read)
