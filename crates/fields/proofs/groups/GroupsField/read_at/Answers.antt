use Rattle.std.proofs.Common.{arith}
use Rattle.fields_model.proofs.FormatLaws.{ruled_list_lawful}
use Rattle.rows.specs.Groups.{group_is_new}
use Rattle.fields_model.specs.Rows.{group, group_behind}
use Rattle.fields_model.proofs.RowLaws.{group_lawful, group_is_ruled}
use Rattle.fields.proofs.Counted.{ruled_is_empty}
use Rattle.fields.proofs.groups.GroupsField.read_at.Goals as goal

pub returns-in-Err : goal.returns-in-Err
returns-in-Err c =
    let version = c.args.version in
    ruled_is_empty 8 group_is_new (group version) (group_behind version) (ruled_list_lawful 1 8 _ _ _ (omega arith) (omega arith) (group_lawful version) (group_is_ruled version)) c.args.bytes.now c.args.at c.in_ok-items.items c.in_ok-items.next (λ i. omega (arith, c.type_inv.bytes i)) c.in_ok-items.ensures (λ are. c.in-Err.ensures.err.1 are)
