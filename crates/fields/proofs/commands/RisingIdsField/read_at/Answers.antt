use Rattle.std.proofs.Common.{arith}
use Rattle.fields_model.proofs.FormatLaws.{ruled_list_lawful}
use Rattle.fields_model.proofs.IdLaws.{allocation_id_lawful}
use Rattle.rows.specs.Ids.{id_rises}
use Rattle.fields_model.specs.Ids.{allocation_id}
use Rattle.fields_model.specs.Rows.{allocation_id_behind}
use Rattle.fields_model.proofs.RowLaws.{allocation_id_is_ruled}
use Rattle.fields.proofs.Counted.{ruled_is_empty}
use Rattle.fields.proofs.commands.RisingIdsField.read_at.Goals as goal

pub returns-in-Err : goal.returns-in-Err
returns-in-Err c =
    ruled_is_empty 64 id_rises allocation_id allocation_id_behind (ruled_list_lawful 1 64 _ _ _ (omega arith) (omega arith) allocation_id_lawful allocation_id_is_ruled) c.args.bytes.now c.args.at c.in_ok-items.items c.in_ok-items.next (λ i. omega (arith, c.type_inv.bytes i)) c.in_ok-items.ensures (λ are. c.in-Err.ensures.err.1 are)
