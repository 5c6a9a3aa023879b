use Rattle.std.proofs.Common.{Bool, List, ◌+◌, ◌||◌, drop, sym, ap, ◌∙◌, arith}
use Rattle.std.specs.List.{list_any}
use Rattle.rows.specs.declared.job.Group.{Group}
use Rattle.group_model.specs.Scheduling.{names_of_groups, is_of_name}
use Rattle.group_model.proofs.Subs.{at_item}
use Rattle.scheduler.proofs.Names.{any_of_groups}
use Rattle.scheduler.proofs.wanted.is_wanted.Goals as goal

pub returns-then-wants : goal.returns-then-wants
returns-then-wants c =
    let a = c.args.row.now in
    let g = c.group-item.result in
    let rest = drop (c.loop-group.group-index + 1) c.args.groups.now in
    let wanted : List Group → Bool = λ gs. list_any (is_of_name a) (names_of_groups gs) in
    let here = at_item wanted c.args.groups.now c.loop-group.group-index g (omega (arith, c.loop-group-test.true)) c.group-item.is in
    sym (c.loop-group.invariant ∙ here ∙ any_of_groups a g rest ∙ ap (λ b. b || wanted rest) (sym c.if-wants.ensures))

pub loop-group-preserved : goal.loop-group-preserved
loop-group-preserved c =
    let a = c.args.row.now in
    let g = c.group-item.result in
    let rest = drop (c.loop-group.group-index + 1) c.args.groups.now in
    let wanted : List Group → Bool = λ gs. list_any (is_of_name a) (names_of_groups gs) in
    let here = at_item wanted c.args.groups.now c.loop-group.group-index g (omega (arith, c.loop-group-test.true)) c.group-item.is in
    c.loop-group.invariant ∙ here ∙ any_of_groups a g rest ∙ ap (λ b. b || wanted rest) (sym c.if-wants.ensures)
