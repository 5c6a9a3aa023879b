-- What a leader replicates with. It stands alone, since the bodies cite it, and the formats cite
-- these.
use Rattle.std.specs.Prelude.{List}
use Rattle.machine_model.specs.declared.entry.Entry.{Entry}
use Rattle.wire.specs.declared.append.AppendHead.{AppendHead}

-- a leader sends the entries behind a place of its log, over the commands C
pub record Append (C : Type 0) : Type 0 where
  pub head : AppendHead
  pub entries : List (Entry C)
