use Rattle.std.proofs.Common.{rules}
use Rattle.rows.proofs.Ascii.{name_is_text}
use Rattle.rows.proofs.name.Name.as_str.Goals as goal

pub unwrap-requires : goal.unwrap-requires
unwrap-requires c = let h = name_is_text c.as_bytes.result.now c.as_bytes.ensures.name in search rules
