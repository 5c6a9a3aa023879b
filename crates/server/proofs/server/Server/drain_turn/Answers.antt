use Rattle.std.proofs.Common.{rules, ◌≡◌, inl, inr, Some, None, Err, refl, sym, subst, ◌∙◌}
use Rattle.group_model.specs.DeskTurns.{drain_turn}
use Rattle.server.specs.ServerViews.{ServerView}
use Rattle.server.specs.Refusals.{HasOpenDesk}
use Rattle.server.specs.Inner.Acts.{EachServer}
use Rattle.group_model.specs.Inputs.{DrainTurn}
use Rattle.server.proofs.DrainTurns.{drain_is, drain_asks}
use Rattle.server.proofs.Turns.{turn_taken, turn_declined, turn_rests, stops, same_view, shut}
use Rattle.server.proofs.server.Server.drain_turn.Goals as goal

pub returns-in-Some-clause-taken : goal.returns-in-Some-clause-taken
returns-in-Some-clause-taken c =
    let held : ServerView = record { raft = c.self-inside.inside.0.1.0; desk = c.self-inside.inside.0.1.1.0.desk } in
    let e : held ≡ c.args.self.now = rw (← c.self-inside.view_is) at c.self.view_is in
    let mid : ServerView = record { raft = c.drain_step.new.raft; desk = held.desk } in
    let h = subst (λ (v : ServerView). EachServer v (λ s. HasOpenDesk s)) (sym e) c.in_ok-open_desk.ensures.open in
    let value = rw c.in-Some.is at c.in_ok-command.ensures.value in
    rw (← e) (turn_taken held mid c.propose.new.self (DrainTurn c.args.node) c.in-Some.command (λ s is. drain_asks held c.args.node (Some c.in-Some.command) s is (h s is) (value s.raft is.raft)) (record { raft = c.drain_step.ensures.same; desk = refl }) c.propose.result c.propose.ensures.taken)

pub returns-in-Some-clause-stopped : goal.returns-in-Some-clause-stopped
returns-in-Some-clause-stopped c =
    let held : ServerView = record { raft = c.self-inside.inside.0.1.0; desk = c.self-inside.inside.0.1.1.0.desk } in
    let e : held ≡ c.args.self.now = rw (← c.self-inside.view_is) at c.self.view_is in
    let mid : ServerView = record { raft = c.drain_step.new.raft; desk = held.desk } in
    let h = subst (λ (v : ServerView). EachServer v (λ s. HasOpenDesk s)) (sym e) c.in_ok-open_desk.ensures.open in
    let value = rw c.in-Some.is at c.in_ok-command.ensures.value in
    rw (← e) (turn_declined held mid c.propose.new.self (DrainTurn c.args.node) c.in-Some.command (λ s is. drain_asks held c.args.node (Some c.in-Some.command) s is (h s is) (value s.raft is.raft)) (record { raft = c.drain_step.ensures.same; desk = refl })
    (λ s is. (h s is).leads) (λ s is may. h s is) c.propose.result c.propose.ensures.refused c.propose.ensures.unchanged)

pub returns-in-None-clause-taken : goal.returns-in-None-clause-taken
returns-in-None-clause-taken c =
    let held : ServerView = record { raft = c.self-inside.inside.0.1.0; desk = c.self-inside.inside.0.1.1.0.desk } in
    let e : held ≡ c.args.self.now = rw (← c.self-inside.view_is) at c.self.view_is in
    let mid : ServerView = record { raft = c.drain_step.new.raft; desk = held.desk } in
    let h = subst (λ (v : ServerView). EachServer v (λ s. HasOpenDesk s)) (sym e) c.in_ok-open_desk.ensures.open in
    let value = rw c.in-None.is at c.in_ok-command.ensures.value in
    rw (← e) (turn_rests held mid (DrainTurn c.args.node) (λ s is. drain_asks held c.args.node None s is (h s is) (value s.raft is.raft)) (record { raft = c.drain_step.ensures.same; desk = refl }))

pub returns-in_err-command-clause-stopped : goal.returns-in_err-command-clause-stopped
returns-in_err-command-clause-stopped c =
    let held : ServerView = record { raft = c.self-inside.inside.0.1.0; desk = c.self-inside.inside.0.1.1.0.desk } in
    let e : held ≡ c.args.self.now = rw (← c.self-inside.view_is) at c.self.view_is in
    let mid : ServerView = record { raft = c.drain_step.new.raft; desk = held.desk } in
    let h = subst (λ (v : ServerView). EachServer v (λ s. HasOpenDesk s)) (sym e) c.in_ok-open_desk.ensures.open in
    let is : c.from_residual-in_err-command.result ≡ Err c.in_err-command.field-0.0 = search rules in
    rw (is, ← e) (λ out. stops held mid (DrainTurn c.args.node) (record { raft = c.drain_step.ensures.same; desk = refl }) out c.in_err-command.field-0.0 h
    (λ s is_of. elim (c.in_err-command.ensures.err s.raft is_of.raft) [
      | inl none ↦ inl none
      | inr turn ↦ inr (drain_is held c.args.node s is_of (h s is_of) ∙ turn)
    ]))

pub returns-in_err-open_desk-clause-stopped : goal.returns-in_err-open_desk-clause-stopped
returns-in_err-open_desk-clause-stopped c =
    let old = c.args.self.now in
    let is : c.from_residual.result ≡ Err c.in_err-open_desk.field-0.0 = search rules in
    rw is (λ out. shut old old (DrainTurn c.args.node) (same_view old) out (λ s d. drain_turn s.raft d c.args.node) (λ s. refl) c.in_err-open_desk.field-0.0 c.in_err-open_desk.ensures.memory c.in_err-open_desk.ensures.shut)
