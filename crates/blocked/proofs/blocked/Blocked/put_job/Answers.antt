use Rattle.std.proofs.Common.{◌≡◌, true, List, ap, sym, subst, ◌∙◌}
use Rattle.std.specs.List.{list_all}
use Rattle.group_model.specs.Blocked.{BlockedEval, BlockedEvals, blocked_with_job}
use Rattle.blocked.specs.Rooms.{BlockedRows, room_in, blocked_of}
use Rattle.blocked.specs.Inner.Anew.{is_held, put_all}
use Rattle.blocked.proofs.Anew.{those, anew, all_held}
use Rattle.blocked.proofs.blocked.Blocked.put_job.Goals as goal

pub put_all-requires : goal.put_all-requires
put_all-requires c =
    let j = c.args.job.now in
    let evals = c.self.inside.evals.rows in
    let is = c.in_ok-anew.ensures.ok ∙ ap (those j) c.rows.ensures.rows in
    subst (λ (bs : List BlockedEval). list_all (is_held evals) bs ≡ true) (sym is) (all_held j evals c.rows.ensures.rising)

pub returns-clause-ok : goal.returns-clause-ok
returns-clause-ok c =
    let j = c.args.job.now in
    let b = c.self.inside in
    let is = c.in_ok-anew.ensures.ok ∙ ap (those j) c.rows.ensures.rows in
    let rows = c.put_all.ensures ∙ ap (λ (bs : List BlockedEval). put_all bs b.evals.rows) is ∙ anew j b.evals.rows c.rows.ensures.rising in
    ap (λ (es : List BlockedEval). let x : BlockedEvals = record { evals = es; room = room_in b.rooms } in x) rows
    ∙ ap (λ (v : BlockedRows). blocked_with_job j (blocked_of v)) c.self.view_is
