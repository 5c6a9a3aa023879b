use Rattle.std.proofs.Common.{◌≡◌, Err, refl, sym, subst, ap, ◌∙◌}
use Rattle.rows.specs.declared.worker.WorkerRequest.TheVariants as requests
use Rattle.group_model.specs.Desks.{applied_state}
use Rattle.leader.specs.OpenDesks.{at_open, on_submit}
use Rattle.server.specs.ServerViews.{ServerView, SameServer}
use Rattle.server.specs.Refusals.{HasOpenDesk}
use Rattle.server.specs.Inner.Acts.{EachServer, EachDoes, request_act}
use Rattle.server.proofs.Requests.{submit_done, submit_declined}
use Rattle.server.proofs.server.Server.serve_submit.Goals as goal

pub returns-in-Ok-clause-taken : goal.returns-in-Ok-clause-taken
returns-in-Ok-clause-taken c =
    let held : ServerView = record { raft = c.self-inside.inside.0.1.0; desk = c.self-inside.inside.0.1.1.0.desk } in
    let e : held ≡ c.args.self.now = rw (← c.self-inside.view_is) at c.self.view_is in
    let new : ServerView = record { raft = held.raft; desk = c.submit.new.desk } in
    let h = subst (λ (v : ServerView). EachServer v (λ s. HasOpenDesk s)) (sym e) c.in_default.ensures.open in
    subst (λ (v : ServerView). EachDoes v (request_act v c.args.from (requests.Submit c.args.plan)) new c.args.outbox.now c.args.outbox.now) e
    (submit_done held new c.args.outbox.now c.args.outbox.now c.args.from h (record { me = refl; size = refl; base = refl; server = refl }) c.args.plan (λ s is. c.in-Ok.ensures.ok s.raft is.raft) refl)

pub returns-in_default-cause-clause-taken : goal.returns-in_default-cause-clause-taken
returns-in_default-cause-clause-taken c =
    let held : ServerView = record { raft = c.self-inside.inside.0.1.0; desk = c.self-inside.inside.0.1.1.0.desk } in
    let e : held ≡ c.args.self.now = rw (← c.self-inside.view_is) at c.self.view_is in
    let me : c.me-me.result ≡ c.args.self.now.raft.me = c.me-me.ensures ∙ ap (λ (v : ServerView). v.raft.me) e in
    let new : ServerView = record { raft = held.raft; desk = c.submit.new.desk } in
    let call = subst (λ (v : ServerView). EachServer v (λ s. at_open (on_submit c.args.from (applied_state s.raft) c.args.plan) v.desk ≡ Err c.in-Err-submit.cause)) e (λ s is. c.in-Err-submit.ensures.err s.raft is.raft c.in_default-cause.not-NoMemory) in
    let same = subst (λ (v : ServerView). SameServer v new) e (record { raft = record { me = refl; size = refl; base = refl; server = refl }; desk = c.in-Err-submit.ensures.left }) in
    submit_declined c.args.self.now new c.args.outbox.now _ c.args.from c.args.plan c.in-Err-submit.cause c.send_refusal-in_default-cause.result c.in_default.ensures.open call same refl (rw me at c.send_refusal-in_default-cause.ensures.sent)
