use Rattle.std.proofs.Common.{not, ◌&&◌, ap, map, ◌∙◌}
use Rattle.std.specs.List.{list_any}
use Rattle.rows.specs.Keys.{alloc_id}
use Rattle.plan_apply.specs.Inner.Names.{place_name, keeps_name}
use Rattle.plan_apply.proofs.Naming.{alone_is}
use Rattle.plan_apply.proofs.names.is_alone.Goals as goal

pub returns-then-is_single : goal.returns-then-is_single
returns-then-is_single c =
    let s = c.args.state.now in
    let job = c.args.job.now in
    let place = c.args.place.now in
    let ids = map alloc_id c.args.stopped.now in
    let held = list_any (keeps_name (place_name job place) ids) s.allocs in
    ap not (c.is_kept.ensures ∙ ap (λ name. list_any (keeps_name name ids) s.allocs) c.name_of.ensures)
    ∙ ap (λ b. b && not held) c.if-is_single.ensures
    ∙ alone_is job ids s.allocs c.args.kept.now.places c.args.more.now place c.requires.one

pub returns-else-is_single : goal.returns-else-is_single
returns-else-is_single c =
    let s = c.args.state.now in
    let job = c.args.job.now in
    let place = c.args.place.now in
    let ids = map alloc_id c.args.stopped.now in
    let held = list_any (keeps_name (place_name job place) ids) s.allocs in
    c.if-is_single.false ∙ ap (λ b. b && not held) c.if-is_single.ensures
    ∙ alone_is job ids s.allocs c.args.kept.now.places c.args.more.now place c.requires.one
