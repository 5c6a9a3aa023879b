use Rattle.std.proofs.Common.{◌≡◌, refl, sym, subst, rules, Err}
use Rattle.group_model.specs.Inputs.{Lapse}
use Rattle.server.specs.declared.server.Outbox.{Outbox}
use Rattle.group_model.specs.DeskTurns.{lapse}
use Rattle.server.specs.ServerViews.{ServerView}
use Rattle.server.specs.Refusals.{HasOpenDesk}
use Rattle.server.specs.Inner.Acts.{EachServer, EachDoes, act_of}
use Rattle.server.proofs.Turns.{lapse_done, same_view, shut}
use Rattle.server.proofs.server.Server.lapse.Goals as goal

pub returns-clause-taken : goal.returns-clause-taken
returns-clause-taken c =
    let held : ServerView = record { raft = c.self-inside.inside.0.1.0; desk = c.self-inside.inside.0.1.1.0.desk } in
    let e : held ≡ c.args.self.now = rw (← c.self-inside.view_is) at c.self.view_is in
    let new : ServerView = record { raft = held.raft; desk = c.lapse.new.self } in
    let h = subst (λ (v : ServerView). EachServer v (λ s. HasOpenDesk s)) (sym e) c.in_ok-open_desk.ensures.open in
    subst (λ (v : ServerView). (out : Outbox) → EachDoes v (act_of v (Lapse c.args.eval)) new out out) e
    (lapse_done held new c.args.eval h (record { me = refl; size = refl; base = refl; server = refl }) c.in_ok-lapse.ensures.ok)

pub returns-in_err-open_desk-clause-stopped : goal.returns-in_err-open_desk-clause-stopped
returns-in_err-open_desk-clause-stopped c =
    let old = c.args.self.now in
    let is : c.from_residual.result ≡ Err c.in_err-open_desk.field-0.0 = search rules in
    rw is (λ out. shut old old (Lapse c.args.eval) (same_view old) out (λ s d. lapse d c.args.eval) (λ s. refl) c.in_err-open_desk.field-0.0 c.in_err-open_desk.ensures.memory c.in_err-open_desk.ensures.shut)
