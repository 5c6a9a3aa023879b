-- Lists of at most 64 items.
use Rattle.std.proofs.Common.{arith}
use Rattle.fields_model.specs.Format.{Format, Lawful}
use Rattle.fields_model.specs.Commands.{batch}
use Rattle.fields_model.proofs.FormatLaws.{list_lawful}

pub batch_lawful : {A : Type 0} (f : Format A) → Lawful f → Lawful (batch f)
batch_lawful f lf = list_lawful 1 64 f (omega arith) (omega arith) lf
