use Rattle.std.proofs.Common.{◌≡◌, true, sym, ap, subst, ◌∙◌}
use Rattle.server.specs.ServerViews.{ServerView}
use Rattle.server.specs.Refusals.{HasOpenDesk}
use Rattle.server.specs.Inner.Acts.{EachServer, EachDoes, act_of}
use Rattle.raft_model.specs.Rafts.{Raft, is_leader}
use Rattle.group_model.specs.Inputs.{PlanTurn}
use Rattle.server.proofs.Plans.{answer_rises, plan_settled, plan_none, still_open}
use Rattle.server.proofs.server.Server.plan_turn.Goals as goal

pub conclude_plan-requires-clause-serves : goal.conclude_plan-requires-clause-serves
conclude_plan-requires-clause-serves c =
    let held : ServerView = record { raft = c.self-inside.inside.0.1.0; desk = c.self-inside.inside.0.1.1.0.desk } in
    let e : held ≡ c.args.self.now = rw (← c.self-inside.view_is) at c.self.view_is in
    let serves = subst (λ (v : ServerView). is_leader v.raft.server.mode ≡ true) (sym e) c.in_ok-open_desk.ensures.serves.leads in
    let whole = c.in_ok-judged.ensures.whole in
    record { leads = ap (λ (s : Raft _). is_leader s.mode) c.judge_first.ensures.same.server ∙ serves; is_open = still_open whole.0 _ _ _ whole.1 }

pub conclude_plan-requires-clause-rises : goal.conclude_plan-requires-clause-rises
conclude_plan-requires-clause-rises c =
    let whole = c.in_ok-judged.ensures.whole in
    answer_rises whole.0 _ _ c.in_ok-judged.field-0 c.in-Some.judged whole.1 c.in-Some.is

pub returns-in_ok-conclude_plan-in-Some-clause-taken : goal.returns-in_ok-conclude_plan-in-Some-clause-taken
returns-in_ok-conclude_plan-in-Some-clause-taken c =
    let held : ServerView = record { raft = c.self-inside.inside.0.1.0; desk = c.self-inside.inside.0.1.1.0.desk } in
    let e : held ≡ c.args.self.now = rw (← c.self-inside.view_is) at c.self.view_is in
    let mid : ServerView = record { raft = c.judge_first.new.raft; desk = c.judge_first.new.desk } in
    let h = subst (λ (v : ServerView). EachServer v (λ s. HasOpenDesk s)) (sym e) c.in_ok-open_desk.ensures.open in
    subst (λ (v : ServerView). EachDoes v (act_of v PlanTurn) c.conclude_plan.new.self c.args.outbox.now c.conclude_plan.new.outbox) e
    (plan_settled held mid c.conclude_plan.new.self c.args.outbox.now c.conclude_plan.new.outbox c.in_ok-judged.field-0 h c.judge_first.ensures.same (λ s is. c.in_ok-judged.ensures.turn s.raft is.raft) c.in-Some.judged c.in-Some.is c.in_ok-conclude_plan-in-Some.ensures.taken)

pub returns-in-None-clause-taken : goal.returns-in-None-clause-taken
returns-in-None-clause-taken c =
    let held : ServerView = record { raft = c.self-inside.inside.0.1.0; desk = c.self-inside.inside.0.1.1.0.desk } in
    let e : held ≡ c.args.self.now = rw (← c.self-inside.view_is) at c.self.view_is in
    let mid : ServerView = record { raft = c.judge_first.new.raft; desk = c.judge_first.new.desk } in
    let h = subst (λ (v : ServerView). EachServer v (λ s. HasOpenDesk s)) (sym e) c.in_ok-open_desk.ensures.open in
    subst (λ (v : ServerView). EachDoes v (act_of v PlanTurn) mid c.args.outbox.now c.args.outbox.now) e
    (plan_none held mid mid c.args.outbox.now c.args.outbox.now c.in_ok-judged.field-0 h c.judge_first.ensures.same (λ s is. c.in_ok-judged.ensures.turn s.raft is.raft) c.in-None.is c.args.outbox.now)
