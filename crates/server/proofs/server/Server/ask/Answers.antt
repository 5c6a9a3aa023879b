use Rattle.std.proofs.Common.{◌≡◌, ◌<◌, refl, ap, ◌∙◌, arith}
use Rattle.server.specs.ServerViews.{ServerView}
use Rattle.server.proofs.Requests.{asks_taken}
use Rattle.server.proofs.server.Server.ask.Goals as goal

pub returns-clause-taken : goal.returns-clause-taken
returns-clause-taken c =
    let size : c.size.result ≡ c.args.self.now.raft.size = c.size.ensures ∙ ap (λ (v : ServerView). v.raft.size) c.self.view_is in
    let me : c.me.result ≡ c.args.self.now.raft.me = c.me.ensures ∙ ap (λ (v : ServerView). v.raft.me) c.self.view_is in
    let below : c.args.to < c.args.self.now.raft.size = omega (arith, c.if-position-size.false, c.position.ensures.value, size) in
    asks_taken c.args.self.now c.args.to c.args.request c.args.outbox.now (record { frames = c.send_request.new.frames; work = c.args.outbox.now.work }) below (rw me at c.in_ok-send_request.ensures.sent) refl
