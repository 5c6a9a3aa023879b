use Rattle.std.proofs.Common.{◌≡◌, refl, true, false, suc, length, sym, subst, ap, ◌∙◌, arith}
use Rattle.group_model.specs.Acceptance.{keeps_some}
use Rattle.plan_apply.specs.Answers.{kept_by}
use Rattle.server.specs.ServerViews.{ServerView}
use Rattle.server.specs.Inner.Acts.{EachServer}
use Rattle.server.proofs.Serving.{front_of}
use Rattle.server.proofs.Turns.{same_view}
use Rattle.server.proofs.Plans.{none_sent, kept_sent, refusal_sent}
use Rattle.server.proofs.server.Server.propose_kept.Goals as goal

pub returns-then-not-keeps_some-clause-taken : goal.returns-then-not-keeps_some-clause-taken
returns-then-not-keeps_some-clause-taken c =
    let old = c.args.self.now in
    let me : c.me-me.result ≡ old.raft.me = c.me-me.ensures ∙ ap (λ (v : ServerView). v.raft.me) c.self.view_is in
    let last = subst (λ (v : ServerView). EachServer v (λ s. c.last-last.result ≡ length s.raft.log)) c.self.view_is (λ s is. c.last-last.ensures.value s.raft is.raft) in
    let none : keeps_some (kept_by c.args.accepted) ≡ false = sym c.keeps_some-keeps_some.ensures ∙ c.if-not-keeps_some.true in
    let response = c.result_of-response.ensures c.args.accepted.plan.stops in
    none_sent old old c.args.outbox.now _ c.args.from c.args.accepted.plan (kept_by c.args.accepted) c.requires.serves refl c.send_response.result c.last-last.result none (same_view old) last (rw (response, me) at c.send_response.ensures.sent)

pub returns-in-Ok-clause-taken : goal.returns-in-Ok-clause-taken
returns-in-Ok-clause-taken c =
    let old = c.args.self.now in
    let me : c.me-me.result ≡ old.raft.me = c.me-me.ensures ∙ ap (λ (v : ServerView). v.raft.me) c.self.view_is in
    let last = subst (λ (v : ServerView). EachServer v (λ s. c.last-last.result ≡ length s.raft.log)) c.self.view_is (λ s is. c.last-last.ensures.value s.raft is.raft) in
    let some : keeps_some (kept_by c.args.accepted) ≡ true = sym c.keeps_some-keeps_some.ensures ∙ c.if-not-keeps_some.false in
    let next : c.in-Some.next ≡ suc c.last-last.result = omega (arith, c.in-Some.ensures.some.0, c.get.ensures.value) in
    let response = c.result_of-response-2.ensures c.args.accepted.plan.stops in
    kept_sent old c.propose.new.self c.args.outbox.now _ c.args.from c.args.accepted.plan (kept_by c.args.accepted) c.requires.serves refl c.in-Some.next some (λ s is. next ∙ ap suc (last s is)) c.in-Ok.ensures.taken (rw (response, me) at c.in_ok-send_response.ensures.sent)

pub returns-in_default-cause-clause-taken : goal.returns-in_default-cause-clause-taken
returns-in_default-cause-clause-taken c =
    let old = c.args.self.now in
    let me : c.me-me.result ≡ old.raft.me = c.me-me.ensures ∙ ap (λ (v : ServerView). v.raft.me) c.self.view_is in
    let some : keeps_some (kept_by c.args.accepted) ≡ true = sym c.keeps_some-keeps_some.ensures ∙ c.if-not-keeps_some.false in
    let front = front_of _ _ _ c.in_ok-send_response.ensures.sent in
    let cut : c.truncate.new.self ≡ c.args.outbox.now.frames = c.truncate.ensures ∙ rw c.len-before.ensures front in
    refusal_sent old c.propose.new.self c.args.outbox.now _ c.args.from c.args.accepted.plan (kept_by c.args.accepted) c.requires.serves refl c.send_refusal-in_default-cause.result c.in-Err.cause some c.in-Err.ensures.refused c.in_default-cause.not-NoMemory c.in-Err.ensures.unchanged (rw (cut, me) at c.send_refusal-in_default-cause.ensures.sent)
