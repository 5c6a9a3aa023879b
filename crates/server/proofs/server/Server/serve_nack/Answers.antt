use Rattle.std.proofs.Common.{◌≡◌, refl, sym, subst}
use Rattle.rows.specs.declared.worker.WorkerRequest.TheVariants as requests
use Rattle.server.specs.ServerViews.{ServerView}
use Rattle.server.specs.Refusals.{HasOpenDesk}
use Rattle.server.specs.Inner.Acts.{EachServer, EachDoes, request_act}
use Rattle.server.proofs.Requests.{nack_done}
use Rattle.server.proofs.server.Server.serve_nack.Goals as goal

pub returns-in-Ok-clause-taken : goal.returns-in-Ok-clause-taken
returns-in-Ok-clause-taken c =
    let held : ServerView = record { raft = c.self-inside.inside.0.1.0; desk = c.self-inside.inside.0.1.1.0.desk } in
    let e : held ≡ c.args.self.now = rw (← c.self-inside.view_is) at c.self.view_is in
    let new : ServerView = record { raft = held.raft; desk = c.nack.new.self } in
    let h = subst (λ (v : ServerView). EachServer v (λ s. HasOpenDesk s)) (sym e) c.in_default.ensures.open in
    subst (λ (v : ServerView). EachDoes v (request_act v c.args.from (requests.Nack c.args.eval c.args.token)) new c.args.outbox.now c.args.outbox.now) e
    (nack_done held new c.args.outbox.now c.args.outbox.now c.args.from h (record { me = refl; size = refl; base = refl; server = refl }) c.args.eval c.args.token c.in-Ok.ensures.ok refl)
