use Rattle.std.proofs.Common.{sym, ◌∙◌}
use Rattle.rows.proofs.Names.{put_in_front}
use Rattle.rows.proofs.name.Name.from_bytes.Goals as goal

pub invariant_of-result : goal.invariant_of-result
invariant_of-result c = put_in_front c.args.bytes.now c.copy_from_slice.new.self c.copy_from_slice.ensures.after (sym c.is_name.ensures ∙ c.if-not-is_name.false)
