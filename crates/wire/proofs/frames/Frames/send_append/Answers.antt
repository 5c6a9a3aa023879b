use Rattle.std.proofs.Common.{◌∙◌, ◌∷◌, [], ◌++◌, ap}
use Rattle.rows.specs.declared.actor.Actor.TheVariants as actors
use Rattle.wire.specs.Messages.{append_message}
use Rattle.wire.specs.Frames.{message_text}
use Rattle.wire.proofs.Buffers.{framed, pushed}
use Rattle.wire.proofs.frames.Frames.send_append.Goals as goal

pub invariant_of-self-2 : goal.invariant_of-self-2
invariant_of-self-2 g c =
    let i = c.self.inside in
    let wrote = c.in_ok-write_frame.ensures.ok in
    let text = message_text g.M.Machine.spec (append_message {S = g.row.M.Denot} c.args.from c.args.to c.args.head.now c.args.entries.now) in
    let q = pushed i.ends.items i.bytes.items (record { to = actors.Server c.args.to; end = c.len.result }) text c.push_reserved.new.self.items c.write_frame.new.out.items
    c.self.invariant wrote.1 (c.len.ensures ∙ c.write_frame.new.out.ok.0) (c.push_reserved.ensures.items ∙ ap (λ l. l ++ (record { to = actors.Server c.args.to; end = c.len.result }) ∷ []) c.in_ok-reserve.ensures.items) in
    q.rise

pub returns-clause-ok : goal.returns-clause-ok
returns-clause-ok g c =
    let i = c.self.inside in
    let wrote = c.in_ok-write_frame.ensures.ok in
    let text = message_text g.M.Machine.spec (append_message {S = g.row.M.Denot} c.args.from c.args.to c.args.head.now c.args.entries.now) in
    let q = pushed i.ends.items i.bytes.items (record { to = actors.Server c.args.to; end = c.len.result }) text c.push_reserved.new.self.items c.write_frame.new.out.items
    c.self.invariant wrote.1 (c.len.ensures ∙ c.write_frame.new.out.ok.0) (c.push_reserved.ensures.items ∙ ap (λ l. l ++ (record { to = actors.Server c.args.to; end = c.len.result }) ∷ []) c.in_ok-reserve.ensures.items) in
    (wrote.0, q.frames ∙ ap (λ fs. fs ++ framed (actors.Server c.args.to) text ∷ []) c.self.view_is)
