use Rattle.std.proofs.Common.{sym, ap, ◌∙◌, length, ◌==◌}
use Rattle.wire.proofs.Buffers.{count}
use Rattle.wire.proofs.frames.Frames.is_empty.Goals as goal

pub returns : goal.returns
returns c =
    let i = c.self.inside in
    c.is_empty.ensures ∙ ap (λ n. n == 0) (i.ends.ok.0 ∙ (sym (count 0 i.ends.items i.bytes.items) ∙ ap length c.self.view_is))
