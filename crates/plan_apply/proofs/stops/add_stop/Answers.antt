use Rattle.std.proofs.Common.{List, sym, ap, subst, map, ◌∙◌}
use Rattle.std.proofs.lemmas.Result.{on_ok_weaker}
use Rattle.rows.specs.declared.allocation.Allocation.{Allocation}
use Rattle.rows.specs.Keys.{alloc_id}
use Rattle.plan_apply.specs.Inner.Stops.{AreEnded}
use Rattle.plan_apply.proofs.Stopping.{more_ended, more_ids, is_living}
use Rattle.plan_apply.proofs.stops.add_stop.Goals as goal

pub returns-in-Some-clause-ids : goal.returns-in-Some-clause-ids
returns-in-Some-clause-ids c =
    let s = c.args.state.now in
    let rows = c.args.rows.now in
    on_ok_weaker c.add_row.result (λ e. ap (map alloc_id) e ∙ more_ids s c.args.job.now rows c.in-Some.row.now c.args.id (sym c.in-Some.ensures) (sym c.if-lives_for.ensures)) c.add_row.ensures

pub returns-in-Some-clause-ended : goal.returns-in-Some-clause-ended
returns-in-Some-clause-ended c =
    let s = c.args.state.now in
    let rows = c.args.rows.now in
    on_ok_weaker c.add_row.result (λ e h. subst (λ (zs : List Allocation). AreEnded s zs) (sym e) (more_ended s rows c.in-Some.row.now c.args.id (sym c.in-Some.ensures) (is_living c.args.job.now c.in-Some.row.now (sym c.if-lives_for.ensures)) h)) c.add_row.ensures
