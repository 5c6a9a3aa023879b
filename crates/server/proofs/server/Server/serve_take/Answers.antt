use Rattle.std.proofs.Common.{◌≡◌, refl, sym, subst}
use Rattle.std.specs.Prelude.{OnOk}
use Rattle.rows.specs.declared.worker.WorkerRequest.TheVariants as requests
use Rattle.server.specs.ServerViews.{ServerView}
use Rattle.server.specs.Refusals.{HasOpenDesk}
use Rattle.server.specs.Inner.Acts.{EachServer, EachDoes, request_act}
use Rattle.server.proofs.Requests.{take_sent}
use Rattle.server.proofs.server.Server.serve_take.Goals as goal

pub returns-in-Ok-clause-taken : goal.returns-in-Ok-clause-taken
returns-in-Ok-clause-taken c =
    let held : ServerView = record { raft = c.self-inside.inside.0.1.0; desk = c.self-inside.inside.0.1.1.0.desk } in
    let e : held ≡ c.args.self.now = rw (← c.self-inside.view_is) at c.self.view_is in
    let me : c.me-me.result ≡ held.raft.me = c.me-me.ensures in
    let new : ServerView = record { raft = held.raft; desk = c.deliver.new.self } in
    let h = subst (λ (v : ServerView). EachServer v (λ s. HasOpenDesk s)) (sym e) c.in_default.ensures.open in
    subst (λ (v : ServerView). OnOk c.send_response.result (EachDoes v (request_act v c.args.from requests.Take) new c.args.outbox.now (record { frames = c.send_response.new.frames; work = c.args.outbox.now.work }))) e
    (take_sent held new c.args.outbox.now (record { frames = c.send_response.new.frames; work = c.args.outbox.now.work }) c.args.from h (record { me = refl; size = refl; base = refl; server = refl }) c.last.result c.in-Ok.given c.send_response.result (λ s is. c.last.ensures.value s.raft is.raft) c.in-Ok.ensures.ok refl (rw me at c.send_response.ensures.sent))
