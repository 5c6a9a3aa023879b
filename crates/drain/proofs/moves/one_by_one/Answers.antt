use Rattle.std.proofs.Common.{[], ap, map, take, sym, ◌∙◌}
use Rattle.rows.specs.declared.allocation.Allocation.{Allocation}
use Rattle.group_model.specs.Drains.{firsts}
use Rattle.drain.specs.Inner.Groups.{first_stays}
use Rattle.drain.proofs.Moving.{one_by_one_is, none_by_one}
use Rattle.drain.proofs.moves.one_by_one.Goals as goal

pub returns-clause-ok : goal.returns-clause-ok
returns-clause-ok c =
    let s = c.args.state.now in
    c.in_ok-ids.ensures
    ∙ ap (λ rows. first_stays s (firsts [] rows)) (c.as_slice.ensures ∙ c.in_ok-rows.ensures)
    ∙ ap (λ rows. take 64 (map (λ (a : Allocation). a.id) rows)) (one_by_one_is c.args.node s)

pub returns-then-is_done-clause-ok : goal.returns-then-is_done-clause-ok
returns-then-is_done-clause-ok c = c.new.ensures ∙ sym (none_by_one c.args.node c.args.state.now (sym c.if-is_done.ensures))
