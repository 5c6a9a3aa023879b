use Rattle.std.proofs.Common.{◌≡◌, refl, sym, subst}
use Rattle.std.specs.Prelude.{OnOk}
use Rattle.group_model.specs.Messages.{Heartbeat}
use Rattle.server.specs.ServerViews.{ServerView}
use Rattle.server.specs.Refusals.{HasOpenDesk}
use Rattle.server.specs.Inner.Acts.{EachServer, EachDoes, client_act}
use Rattle.server.proofs.Heartbeats.{beat_told}
use Rattle.server.proofs.server.Server.heartbeat.Goals as goal

pub returns-in-Ok-clause-taken : goal.returns-in-Ok-clause-taken
returns-in-Ok-clause-taken c =
    let held : ServerView = record { raft = c.self-inside.inside.0.1.0; desk = c.self-inside.inside.0.1.1.0.desk } in
    let e : held ≡ c.args.self.now = rw (← c.self-inside.view_is) at c.self.view_is in
    let me : c.me-me.result ≡ held.raft.me = c.me-me.ensures in
    let new : ServerView = record { raft = held.raft; desk = c.beat.new.self } in
    let h = subst (λ (v : ServerView). EachServer v (λ s. HasOpenDesk s)) (sym e) c.in_default.ensures.open in
    let call = rw c.node_of.ensures at c.in-Ok.ensures.ok in
    subst (λ (v : ServerView). OnOk c.send_told-in-Ok.result (EachDoes v (client_act v c.args.client Heartbeat) new c.args.outbox.now (record { frames = c.send_told-in-Ok.new.frames; work = c.args.outbox.now.work }))) e
    (beat_told held new c.args.outbox.now (record { frames = c.send_told-in-Ok.new.frames; work = c.args.outbox.now.work }) c.args.client refl c.send_told-in-Ok.result h (record { me = refl; size = refl; base = refl; server = refl }) call (rw me at c.send_told-in-Ok.ensures.sent))
