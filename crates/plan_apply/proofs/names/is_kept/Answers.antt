use Rattle.std.proofs.Common.{sym, ap, map}
use Rattle.std.specs.Prelude.{not}
use Rattle.rows.specs.Keys.{alloc_id}
use Rattle.plan_apply.proofs.Naming.{none_kept, found_kept, once_kept}
use Rattle.plan_apply.proofs.names.is_kept.Goals as goal

pub returns-in-None : goal.returns-in-None
returns-in-None c = sym (none_kept c.args.name.now (map alloc_id c.args.stopped.now) c.args.state.now.allocs (sym c.in-None.ensures))

pub returns-in-Some : goal.returns-in-Some
returns-in-Some c = sym (found_kept c.args.name.now (map alloc_id c.args.stopped.now) c.in-Some.row.now c.args.state.now.allocs (sym c.in-Some.ensures) (sym (ap not c.if-not-has_row.ensures)))

pub returns-in-Some-2 : goal.returns-in-Some-2
returns-in-Some-2 c = sym (once_kept c.args.name.now (map alloc_id c.args.stopped.now) c.in-Some.row.now c.args.state.now.allocs (c.if-knows_names_distinct.ensures tt) (sym c.in-Some.ensures) (sym c.if-not-has_row.ensures))
