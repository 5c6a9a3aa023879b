use Rattle.std.proofs.Common.{◌≡◌, true, false, refl, sym, subst, ap, ◌∙◌}
use Rattle.raft_model.specs.Rafts.{is_leader}
use Rattle.group_model.specs.Desks.{projected_state}
use Rattle.group_model.specs.ClientRequests.{is_taken_already}
use Rattle.server.specs.ServerViews.{ServerView, SameServer}
use Rattle.server.specs.Inner.Acts.{EachServer}
use Rattle.server.proofs.Servers.{leads_of, same_is, same_then}
use Rattle.server.proofs.Serving.{front_of}
use Rattle.server.proofs.Writing.{refusal_told}
use Rattle.server.proofs.server.Server.write.Goals as goal

pub returns-in_default-clause-taken : goal.returns-in_default-clause-taken
returns-in_default-clause-taken c =
    let old = c.args.self.now in
    let held = c.self.view_is in
    let me : c.me-me.result ≡ old.raft.me = c.me-me.ensures ∙ ap (λ (v : ServerView). v.raft.me) held in
    let leads : is_leader old.raft.server.mode ≡ true = sym c.leads.ensures ∙ c.if-not-leads.false in
    let fresh = subst (λ (v : ServerView). EachServer v (λ s. is_taken_already (projected_state s.raft) c.args.command ≡ false)) held (λ s is. sym (c.in_ok-is_taken_already.ensures.value s.raft is.raft) ∙ c.if-branch.false) in
    let mid : ServerView = record { raft = c.is_taken_already.new.raft; desk = c.self.inside.desk } in
    let same : SameServer old mid = subst (λ (v : ServerView). SameServer v mid) held (record { raft = c.is_taken_already.ensures.same; desk = refl }) in
    let front = front_of _ _ _ c.in_ok-send_told.ensures.sent in
    let cut : c.truncate.new.self ≡ c.args.outbox.now.frames = c.truncate.ensures ∙ rw c.len-before.ensures front in
    refusal_told old c.propose.new.self c.args.outbox.now _ c.args.client c.args.kind c.args.command c.send_told-in_default.result c.in-Err.cause (λ s is. leads_of old s is leads) fresh
    (λ s is. c.in-Err.ensures.refused s (same_is old mid s same is)) c.in_default.not-NoMemory (same_then old mid c.propose.new.self same c.in-Err.ensures.unchanged) refl (rw (cut, me) at c.send_told-in_default.ensures.sent)
