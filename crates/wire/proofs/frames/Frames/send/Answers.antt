use Rattle.std.proofs.Common.{◌∙◌, ◌∷◌, [], ◌++◌, ap, ap₂}
use Rattle.wire.specs.Frames.{message_text}
use Rattle.wire.proofs.Buffers.{framed, pushed}
use Rattle.wire.proofs.frames.Frames.send.Goals as goal

pub invariant_of-self-2 : goal.invariant_of-self-2
invariant_of-self-2 g c =
    let i = c.self.inside in
    let wrote = c.in_ok-write_message.ensures.ok in
    let q = pushed i.ends.items i.bytes.items (record { to = c.to.result; end = c.len.result }) (message_text g.M.Machine.spec c.args.message.now) c.push_reserved.new.self.items c.write_message.new.out.items
    c.self.invariant wrote.1 (c.len.ensures ∙ c.write_message.new.out.ok.0) (c.push_reserved.ensures.items ∙ ap (λ l. l ++ (record { to = c.to.result; end = c.len.result }) ∷ []) c.in_ok-reserve.ensures.items) in
    q.rise

pub returns-clause-ok : goal.returns-clause-ok
returns-clause-ok g c =
    let i = c.self.inside in
    let wrote = c.in_ok-write_message.ensures.ok in
    let text = message_text g.M.Machine.spec c.args.message.now in
    let q = pushed i.ends.items i.bytes.items (record { to = c.to.result; end = c.len.result }) text c.push_reserved.new.self.items c.write_message.new.out.items
    c.self.invariant wrote.1 (c.len.ensures ∙ c.write_message.new.out.ok.0) (c.push_reserved.ensures.items ∙ ap (λ l. l ++ (record { to = c.to.result; end = c.len.result }) ∷ []) c.in_ok-reserve.ensures.items) in
    (wrote.0, q.frames ∙ ap₂ (λ fs to. fs ++ framed to text ∷ []) c.self.view_is c.to.ensures)
