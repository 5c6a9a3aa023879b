use Rattle.std.proofs.Common.{◌∙◌, ◌+◌, ◌<◌, ◌∷◌, ap, drop, length, map, refl, rules, sym}
use Rattle.std.proofs.lemmas.List.{drop_more, map-append}
use Rattle.group_inputs.specs.declared.event.Event.{Event}
use Rattle.sim_report_lines.specs.Grids.{cells_of}
use Rattle.sim_tell.proofs.Runs.{all_told, none_so_far, one_more}
use Rattle.sim_tell.proofs.lines.told_behind.Goals as goal

pub loop-event-init : goal.loop-event-init
loop-event-init c = record {
  rows = search rules;
  number = refl;
  told = none_so_far _ _ _ _ c.in_ok-newest.ensures;
}

pub loop-event-preserved : goal.loop-event-preserved
loop-event-preserved c =
    let events = c.args.events.now in
    let i = c.loop-event.event-index in
    let event = c.event-item.result in
    let so = c.loop-event.invariant in
    let lt : i < length events = search rules in
    let grown = c.in_ok-push.ensures.items in
    record {
      rows = search rules;
      number = ap (λ n. n + 1) so.number;
      told = one_more _ events _ _ _ _ _ i so.told event
          (drop_more events i event lt ∙ ap (λ (e : Event). e ∷ drop (i + 1) events) (sym c.event-item.is))
          _ _ (cells_of c.in_ok-row.row) (rw so.number at c.in_ok-row.ensures)
          (ap (map cells_of) grown ∙ map-append cells_of _ _);
    }

pub returns-clause-rows : goal.returns-clause-rows
returns-clause-rows c =
    all_told _ c.args.events.now _ _ _ _ _ c.loop-event.invariant.told (search rules)
