use Rattle.std.proofs.Common.{◌≡◌, List, ap, ◌∙◌}
use Rattle.std.proofs.lemmas.Result.{on_ok_weaker}
use Rattle.rows.specs.declared.evaluation.Evaluation.{Evaluation}
use Rattle.blocked.specs.Rooms.{blocked_of}
use Rattle.leader.specs.Inner.Changes.{broker_after, blocked_after, tell_job, tell_rooms}
use Rattle.leader.proofs.Follows.{broker_follows, blocked_follows, counts_follow, again}
use Rattle.leader.proofs.following.follow.Goals as goal

broker_is : (c : goal.After-drop-rows-inside-2) → c.tell_evals.new.broker ≡ broker_after c.in_ok-rows.rows c.args.broker.now
broker_is c = c.in_ok-tell_evals.ensures.broker ∙ ap (λ (rows : List Evaluation). broker_after rows c.args.broker.now) c.as_slice.ensures

blocked_is : (c : goal.After-drop-rows-inside-2) → blocked_of c.tell_rooms.new.blocked
    ≡ tell_rooms c.args.command.now c.args.state.now (blocked_after c.args.state.now c.in_ok-rows.rows (tell_job c.args.command.now c.args.state.now (blocked_of c.args.blocked.now)))
blocked_is c =
    let t = c.args.state.now in
    c.in_ok-tell_rooms.ensures.ok
    ∙ ap (tell_rooms c.args.command.now t) (c.in_ok-tell_evals.ensures.blocked ∙ (λ i. blocked_after t (c.as_slice.ensures i) (c.in_ok-tell_job.ensures.ok i)))

pub returns-clause-broker : goal.returns-clause-broker
returns-clause-broker c =
    on_ok_weaker c.tell_node.result
    (λ e w. broker_is c ∙ broker_follows c.args.command.now c.args.state.now c.in_ok-rows.rows c.args.broker.now (blocked_of c.args.blocked.now) c.args.expiry.now c.in_ok-rows.ensures.ok w)
    c.tell_node.ensures.ok

pub returns-clause-blocked : goal.returns-clause-blocked
returns-clause-blocked c =
    on_ok_weaker c.tell_node.result
    (λ e w. blocked_is c ∙ blocked_follows c.args.command.now c.args.state.now c.in_ok-rows.rows c.args.broker.now (blocked_of c.args.blocked.now) c.args.expiry.now c.in_ok-rows.ensures.ok w)
    c.tell_node.ensures.ok

pub returns-clause-expiry : goal.returns-clause-expiry
returns-clause-expiry c =
    on_ok_weaker c.tell_node.result
    (λ e w. e ∙ counts_follow c.args.command.now c.args.state.now c.in_ok-rows.rows c.args.broker.now (blocked_of c.args.blocked.now) c.args.expiry.now c.in_ok-rows.ensures.ok w)
    c.tell_node.ensures.ok

pub returns-clause-again : goal.returns-clause-again
returns-clause-again c =
    on_ok_weaker c.tell_node.result
    (λ e w. rw (broker_is c) rw (blocked_is c) rw e (again c.args.command.now c.args.state.now c.in_ok-rows.rows c.args.broker.now (blocked_of c.args.blocked.now) c.args.expiry.now c.in_ok-rows.ensures.ok w))
    c.tell_node.ensures.ok
