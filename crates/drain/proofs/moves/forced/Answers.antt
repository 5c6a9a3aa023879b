use Rattle.std.proofs.Common.{not, filter, ap, map, take, sym, ◌∙◌}
use Rattle.rows.specs.declared.allocation.Allocation.{Allocation}
use Rattle.drain.proofs.Moving.{forced_is, none_forced}
use Rattle.drain.proofs.moves.forced.Goals as goal

pub returns-clause-ok : goal.returns-clause-ok
returns-clause-ok c =
    let s = c.args.state.now in
    c.in_ok-ids.ensures
    ∙ ap (λ rows. take 64 (map (λ (a : Allocation). a.id) (filter (λ (a : Allocation). not a.migrate) rows))) (c.as_slice.ensures ∙ c.in_ok-rows.ensures)
    ∙ ap (λ rows. take 64 (map (λ (a : Allocation). a.id) rows)) (forced_is c.args.node s)

pub returns-then-is_done-clause-ok : goal.returns-then-is_done-clause-ok
returns-then-is_done-clause-ok c = c.new.ensures ∙ sym (none_forced c.args.node c.args.state.now (sym c.if-is_done.ensures))
