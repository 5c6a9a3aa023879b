use Rattle.std.proofs.Common.{◌≡◌, ◌∙◌, ◌↔◌, List, ap, map, refl, rules, subst, sym, true}
use Rattle.std.specs.List.{count_by}
use Rattle.fsm_tables.specs.Claims.{claims}
use Rattle.group_model.specs.Scheduling.{fits_nowhere, has_room_for}
use Rattle.sim_metrics.specs.Metrics.{count_missing, ends_full, is_place_of}
use Rattle.sim_metrics.specs.Verdicts.{is_verdict, verdict}
use Rattle.sim_metrics.specs.declared.verdict.Verdict.{Verdict}
use Rattle.sim_metrics.specs.declared.verdict.Verdict.TheVariants.{HasRoom}
use Rattle.sim_metrics.proofs.Rooms.{none_counted, room_is, rooms_are, said_where}
use Rattle.sim_metrics.proofs.metrics.group_metrics.Goals as goal

pub returns : goal.returns
returns c =
    let s = c.args.state.now in
    let g = c.args.group.now in
    let cs = claims s.allocs in
    let p = c.args.plan.now in
    let each = c.in_ok-verdicts.ensures in
    let placed : c.count_places.result ≡ count_by (is_place_of g.name) p.places = search rules in
    let Nowhere : List Verdict → Type 0 = λ vs. (count_by (is_verdict HasRoom) vs ≡ 0) ↔ (fits_nowhere s cs g ≡ true) in
    record {
      group = refl;
      missing = c.count_missing.ensures;
      placed = placed;
      full = c.ends_full.ensures;
      verdicts = each;
      none = said_where c.count_missing.result (count_missing s c.args.job.now g) c.count_places.result (count_by (is_place_of g.name) p.places) c.ends_full.result (ends_full p)
          c.count_missing.ensures placed c.ends_full.ensures;
      room = ap (map (is_verdict HasRoom)) each ∙ rooms_are cs g s.nodes;
      nowhere = subst Nowhere (sym each) (none_counted (verdict cs g) (has_room_for cs g) (room_is cs g) s.nodes);
    }
