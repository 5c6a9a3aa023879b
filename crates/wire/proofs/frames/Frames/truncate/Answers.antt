use Rattle.std.proofs.Common.{◌∙◌, sym, ap, take, arith}
use Rattle.wire.specs.Inner.Ends.{start_of}
use Rattle.wire.proofs.Buffers.{cut, none_cut}
use Rattle.wire.proofs.frames.Frames.truncate.Goals as goal

pub invariant_of-self : goal.invariant_of-self
invariant_of-self c =
    let i = c.self.inside in
    let k = c.args.count in
    let q = cut i.ends.items i.bytes.items k c.start_of-end.result _ _ c.self.invariant (omega (arith, c.if-count-len.true, c.len.ensures, i.ends.ok.0))
    (c.start_of-end.ensures ∙ ap (λ l. start_of 0 l k) c.deref.ensures.value) c.truncate-then-count-len.ensures.items c.truncate.ensures.items in
    q.rise

pub returns-then-count-len : goal.returns-then-count-len
returns-then-count-len c =
    let i = c.self.inside in
    let k = c.args.count in
    let q = cut i.ends.items i.bytes.items k c.start_of-end.result _ _ c.self.invariant (omega (arith, c.if-count-len.true, c.len.ensures, i.ends.ok.0))
    (c.start_of-end.ensures ∙ ap (λ l. start_of 0 l k) c.deref.ensures.value) c.truncate-then-count-len.ensures.items c.truncate.ensures.items in
    q.frames ∙ ap (λ l. take k l) c.self.view_is

pub returns-else-count-len : goal.returns-else-count-len
returns-else-count-len c =
    let i = c.self.inside in
    let k = c.args.count in
    sym c.self.view_is ∙ (none_cut i.ends.items i.bytes.items k (omega (arith, c.if-count-len.false, c.len.ensures, i.ends.ok.0)) ∙ ap (λ l. take k l) c.self.view_is)
