use Rattle.std.proofs.Common.{◌≡◌, Some, ◌∙◌, sym, ap, length, slice_get, arith}
use Rattle.std.proofs.lemmas.Option.{slice_get_past, slice_get_read}
use Rattle.wire.specs.Inner.Ends.{start_of}
use Rattle.wire.proofs.Buffers.{frame_none, frame_some, inside, framed}
use Rattle.wire.proofs.frames.Frames.get.Goals as goal

pub returns-then-at-len : goal.returns-then-at-len
returns-then-at-len c =
    let i = c.self.inside in
    let none = frame_none 0 i.ends.items i.bytes.items c.args.at (slice_get_past i.ends.items c.args.at (omega (arith, c.if-at-len.true, c.len.ensures, i.ends.ok.0))) in
    sym none ∙ ap (λ l. slice_get l c.args.at) c.self.view_is

pub between-requires-clause-rises : goal.between-requires-clause-rises
between-requires-clause-rises c =
    let i = c.self.inside in
    let here : slice_get i.ends.items c.args.at ≡ Some c.index-end.result.now = slice_get_read i.ends.items _ c.args.at c.index-end.result.now i.ends.ok.0 (omega (arith, c.if-at-len.false, c.len.ensures)) c.index-end.ensures in
    let q = inside 0 i.ends.items _ c.args.at c.index-end.result.now c.self.invariant here in
    let start : c.start_of.result ≡ start_of 0 i.ends.items c.args.at = c.start_of.ensures ∙ ap (λ l. start_of 0 l c.args.at) c.deref-2.ensures.value in
    omega (arith, q.0, start)

pub between-requires-clause-inside : goal.between-requires-clause-inside
between-requires-clause-inside c =
    let i = c.self.inside in
    let here : slice_get i.ends.items c.args.at ≡ Some c.index-end.result.now = slice_get_read i.ends.items _ c.args.at c.index-end.result.now i.ends.ok.0 (omega (arith, c.if-at-len.false, c.len.ensures)) c.index-end.ensures in
    let q = inside 0 i.ends.items _ c.args.at c.index-end.result.now c.self.invariant here in
    omega (arith, q.1, ap length c.deref.ensures.value)

pub returns : goal.returns
returns c =
    let i = c.self.inside in
    let e = c.index-end.result.now in
    let here : slice_get i.ends.items c.args.at ≡ Some e = slice_get_read i.ends.items _ c.args.at e i.ends.ok.0 (omega (arith, c.if-at-len.false, c.len.ensures)) c.index-end.ensures in
    let some = frame_some 0 i.ends.items i.bytes.items c.args.at e here in
    let start : c.start_of.result ≡ start_of 0 i.ends.items c.args.at = c.start_of.ensures ∙ ap (λ l. start_of 0 l c.args.at) c.deref-2.ensures.value in
    let bytes = rw (c.deref.ensures.value, start) at c.between.ensures in
    ap (λ b. Some (framed e.to b)) bytes ∙ (sym some ∙ ap (λ l. slice_get l c.args.at) c.self.view_is)
