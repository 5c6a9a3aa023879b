use Rattle.std.proofs.Common.{◌≡◌, true, Option, Ok, refl, sym, ap, subst, ◌∙◌, rules, Err}
use Rattle.std.specs.Prelude.{is_some, option_map}
use Rattle.rows.specs.declared.evaluation.EvalId.{EvalId}
use Rattle.rows.specs.declared.command.Command.TheVariants as commands
use Rattle.rows.specs.declared.command.StatusChange.TheVariants as changes
use Rattle.group_model.specs.Inputs.{FreeTurn}
use Rattle.group_model.specs.DeskTurns.{free_turn}
use Rattle.server.specs.ServerViews.{ServerView}
use Rattle.server.specs.Refusals.{HasOpenDesk}
use Rattle.server.specs.Inner.Acts.{EachServer, proposes_if_any}
use Rattle.server.proofs.DeskCalls.{over_blocked}
use Rattle.server.proofs.Serving.{act_taken}
use Rattle.server.proofs.Turns.{turn_taken, turn_declined, turn_rests, free_is, same_view, shut}
use Rattle.server.proofs.server.Server.free_turn.Goals as goal

pub returns-in-Some-clause-taken : goal.returns-in-Some-clause-taken
returns-in-Some-clause-taken c =
    let held : ServerView = record { raft = c.self-inside.inside.0.1.0; desk = c.self-inside.inside.0.1.1.0.desk } in
    let e : held ≡ c.args.self.now = rw (← c.self-inside.view_is) at c.self.view_is in
    let mid : ServerView = record { raft = c.first_freed.new.raft; desk = held.desk } in
    let h = subst (λ (v : ServerView). EachServer v (λ s. HasOpenDesk s)) (sym e) c.in_ok-open_desk.ensures.open in
    let opened = subst (λ (v : ServerView). is_some v.desk ≡ true) (sym e) c.in_ok-open_desk.ensures.serves.is_open in
    rw (← e) (turn_taken held mid c.propose.new.self FreeTurn (commands.EvalStatus c.in-Some.eval changes.Pending) (λ s is. free_is held s is (h s is) c.in_ok-eval.field-0 (c.in_ok-eval.ensures.value s.raft is.raft (over_blocked s.raft held.desk opened is.led)) ∙ ap (λ (id : Option EvalId). act_taken (proposes_if_any s.desk (option_map (λ i. commands.EvalStatus i changes.Pending) id))) c.in-Some.is) (record { raft = c.first_freed.ensures.same; desk = refl }) c.propose.result c.propose.ensures.taken)

pub returns-in-Some-clause-stopped : goal.returns-in-Some-clause-stopped
returns-in-Some-clause-stopped c =
    let held : ServerView = record { raft = c.self-inside.inside.0.1.0; desk = c.self-inside.inside.0.1.1.0.desk } in
    let e : held ≡ c.args.self.now = rw (← c.self-inside.view_is) at c.self.view_is in
    let mid : ServerView = record { raft = c.first_freed.new.raft; desk = held.desk } in
    let h = subst (λ (v : ServerView). EachServer v (λ s. HasOpenDesk s)) (sym e) c.in_ok-open_desk.ensures.open in
    let opened = subst (λ (v : ServerView). is_some v.desk ≡ true) (sym e) c.in_ok-open_desk.ensures.serves.is_open in
    rw (← e) (turn_declined held mid c.propose.new.self FreeTurn (commands.EvalStatus c.in-Some.eval changes.Pending) (λ s is. free_is held s is (h s is) c.in_ok-eval.field-0 (c.in_ok-eval.ensures.value s.raft is.raft (over_blocked s.raft held.desk opened is.led)) ∙ ap (λ (id : Option EvalId). act_taken (proposes_if_any s.desk (option_map (λ i. commands.EvalStatus i changes.Pending) id))) c.in-Some.is) (record { raft = c.first_freed.ensures.same; desk = refl })
    (λ s is. (h s is).leads) (λ s is may. h s is) c.propose.result c.propose.ensures.refused c.propose.ensures.unchanged)

pub returns-in-None-clause-taken : goal.returns-in-None-clause-taken
returns-in-None-clause-taken c =
    let held : ServerView = record { raft = c.self-inside.inside.0.1.0; desk = c.self-inside.inside.0.1.1.0.desk } in
    let e : held ≡ c.args.self.now = rw (← c.self-inside.view_is) at c.self.view_is in
    let mid : ServerView = record { raft = c.first_freed.new.raft; desk = held.desk } in
    let h = subst (λ (v : ServerView). EachServer v (λ s. HasOpenDesk s)) (sym e) c.in_ok-open_desk.ensures.open in
    let opened = subst (λ (v : ServerView). is_some v.desk ≡ true) (sym e) c.in_ok-open_desk.ensures.serves.is_open in
    rw (← e) (turn_rests held mid FreeTurn (λ s is. free_is held s is (h s is) c.in_ok-eval.field-0 (c.in_ok-eval.ensures.value s.raft is.raft (over_blocked s.raft held.desk opened is.led)) ∙ ap (λ (id : Option EvalId). act_taken (proposes_if_any s.desk (option_map (λ i. commands.EvalStatus i changes.Pending) id))) c.in-None.is) (record { raft = c.first_freed.ensures.same; desk = refl }))

pub returns-in_err-open_desk-clause-stopped : goal.returns-in_err-open_desk-clause-stopped
returns-in_err-open_desk-clause-stopped c =
    let old = c.args.self.now in
    let is : c.from_residual.result ≡ Err c.in_err-open_desk.field-0.0 = search rules in
    rw is (λ out. shut old old (FreeTurn) (same_view old) out (λ s d. Ok (free_turn s.raft d)) (λ s. refl) c.in_err-open_desk.field-0.0 c.in_err-open_desk.ensures.memory c.in_err-open_desk.ensures.shut)
