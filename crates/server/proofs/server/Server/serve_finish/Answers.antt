use Rattle.std.proofs.Common.{◌≡◌, refl, sym, ap, subst, ◌∙◌}
use Rattle.rows.specs.Changes.{change_of}
use Rattle.rows.specs.declared.command.Command.TheVariants as commands
use Rattle.server.specs.ServerViews.{ServerView}
use Rattle.server.specs.Inner.Acts.{IsProposed}
use Rattle.server.proofs.Requests.{finish_acked, finish_declined}
use Rattle.server.proofs.server.Server.serve_finish.Goals as goal

pub returns-in_default-cause-clause-taken : goal.returns-in_default-cause-clause-taken
returns-in_default-cause-clause-taken c =
    let old = c.args.self.now in
    let me : c.me-me.result ≡ old.raft.me = c.me-me.ensures ∙ ap (λ (v : ServerView). v.raft.me) c.self.view_is in
    finish_declined old c.propose.new.self c.args.outbox.now _ c.args.from c.args.eval c.args.token c.args.outcome c.in-Err-propose.cause c.send_refusal-in_default-cause.result c.in_default.ensures.open c.in_default-has_pair.ensures.has
    (rw c.into_change.ensures at c.in-Err-propose.ensures.refused) c.in_default-cause.not-NoMemory c.in-Err-propose.ensures.unchanged refl (rw me at c.send_refusal-in_default-cause.ensures.sent)

pub returns-in-Ok-ack-clause-taken : goal.returns-in-Ok-ack-clause-taken
returns-in-Ok-ack-clause-taken c = λ s is.
    let old = c.args.self.now in
    let held : ServerView = record { raft = c.self-inside.inside.0.1.0; desk = c.self-inside.inside.0.1.1.0.desk } in
    let e : held ≡ c.propose.new.self = rw (← c.self-inside.view_is) at c.self-2.view_is in
    let new : ServerView = record { raft = held.raft; desk = c.ack.new.self } in
    let taken = rw c.into_change.ensures at c.in-Ok.ensures.taken in
    let p = subst (λ (v : ServerView). IsProposed s (commands.EvalStatus c.args.eval (change_of c.args.outcome)) v) (sym e) (taken s is) in
    finish_acked old new c.args.outbox.now c.args.outbox.now s c.args.from c.args.eval c.args.token c.args.outcome held is p refl c.in-Ok-ack.ensures.ok refl
