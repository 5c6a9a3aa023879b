use Rattle.std.proofs.Common.{◌≡◌, Ok, refl, subst, rules, Err}
use Rattle.group_model.specs.Desks.{applied_state}
use Rattle.group_model.specs.Inputs.{Expire}
use Rattle.leader.specs.OpenDesks.{if_open, on_expire}
use Rattle.group_model.specs.DeskTurns.{expire}
use Rattle.server.specs.ServerViews.{ServerView}
use Rattle.server.specs.Inner.Acts.{EachServer}
use Rattle.server.proofs.Turns.{same_view, turn_taken, turn_declined, expire_is, expire_heard, expire_declines, shut}
use Rattle.server.proofs.server.Server.expire.Goals as goal

pub returns-clause-taken : goal.returns-clause-taken
returns-clause-taken c =
    let held : ServerView = record { raft = c.self-inside.inside.0.1.0; desk = c.self-inside.inside.0.1.1.0.desk } in
    let e : held ≡ c.args.self.now = rw (← c.self-inside.view_is) at c.self.view_is in
    let old = c.args.self.now in
    let h = c.in_ok-open_desk.ensures.open in
    let call = subst (λ (v : ServerView). EachServer v (λ s. if_open (on_expire c.args.node c.args.beats (applied_state s.raft)) v.desk ≡ Ok c.in_ok-command.command)) e (λ s is. c.in_ok-command.ensures.value s.raft is.raft) in
    turn_taken old old c.propose.new.self (Expire c.args.node c.args.beats) c.in_ok-command.command (λ s is. expire_is old s is (h s is) c.args.node c.args.beats c.in_ok-command.command (call s is)) (same_view old) c.propose.result c.propose.ensures.taken

pub returns-clause-stopped : goal.returns-clause-stopped
returns-clause-stopped c =
    let held : ServerView = record { raft = c.self-inside.inside.0.1.0; desk = c.self-inside.inside.0.1.1.0.desk } in
    let e : held ≡ c.args.self.now = rw (← c.self-inside.view_is) at c.self.view_is in
    let old = c.args.self.now in
    let h = c.in_ok-open_desk.ensures.open in
    let call = subst (λ (v : ServerView). EachServer v (λ s. if_open (on_expire c.args.node c.args.beats (applied_state s.raft)) v.desk ≡ Ok c.in_ok-command.command)) e (λ s is. c.in_ok-command.ensures.value s.raft is.raft) in
    turn_declined old old c.propose.new.self (Expire c.args.node c.args.beats) c.in_ok-command.command (λ s is. expire_is old s is (h s is) c.args.node c.args.beats c.in_ok-command.command (call s is)) (same_view old)
    (λ s is. (h s is).leads) (λ s is may. (h s is, expire_heard old s is (h s is) c.args.node c.args.beats c.in_ok-command.command (call s is), may)) c.propose.result c.propose.ensures.refused c.propose.ensures.unchanged

pub returns-in_err-command-clause-stopped : goal.returns-in_err-command-clause-stopped
returns-in_err-command-clause-stopped c =
    let held : ServerView = record { raft = c.self-inside.inside.0.1.0; desk = c.self-inside.inside.0.1.1.0.desk } in
    let e : held ≡ c.args.self.now = rw (← c.self-inside.view_is) at c.self.view_is in
    let cause = c.in_err-command.field-0.0 in
    let call = subst (λ (v : ServerView). EachServer v (λ s. if_open (on_expire c.args.node c.args.beats (applied_state s.raft)) v.desk ≡ Err cause)) e (λ s is. c.in_err-command.ensures.err s.raft is.raft) in
    let is : c.from_residual-in_err-command.result ≡ Err cause = search rules in
    rw is (expire_declines c.args.self.now c.args.node c.args.beats cause c.in_ok-open_desk.ensures.open call)

pub returns-in_err-open_desk-clause-stopped : goal.returns-in_err-open_desk-clause-stopped
returns-in_err-open_desk-clause-stopped c =
    let old = c.args.self.now in
    let is : c.from_residual.result ≡ Err c.in_err-open_desk.field-0.0 = search rules in
    rw is (λ out. shut old old (Expire c.args.node c.args.beats) (same_view old) out (λ s d. expire s.raft d c.args.node c.args.beats) (λ s. refl) c.in_err-open_desk.field-0.0 c.in_err-open_desk.ensures.memory c.in_err-open_desk.ensures.shut)
