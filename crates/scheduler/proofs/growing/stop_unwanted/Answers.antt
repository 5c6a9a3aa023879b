use Rattle.std.proofs.Common.{◌≡◌, ◌+◌, ◌-◌, ◌<◌, ◌++◌, ◌∷◌, [], List, T, length, map, take, drop, Some, sym, ap, subst, ◌∙◌, arith}
use Rattle.std.proofs.lemmas.List.{length_push}
use Rattle.rows.specs.declared.allocation.AllocId.{AllocId}
use Rattle.rows.specs.declared.allocation.Allocation.{Allocation}
use Rattle.rows.specs.Keys.{alloc_cmp, alloc_id}
use Rattle.rows.specs.Rising.{is_rising}
use Rattle.fsm_tables.proofs.RowLaws.{some_same}
use Rattle.group_model.specs.Scheduling.{PlanPart, claimed_by}
use Rattle.group_model.proofs.Subs.{at_item, one_taken}
use Rattle.scheduler.specs.Inner.Loads.{load_of, load_less}
use Rattle.scheduler.specs.Inner.Growing.{part_of, fresh, IsLiveRow}
use Rattle.scheduler.proofs.Found.{all_at}
use Rattle.scheduler.proofs.Names.{unwanted_ids, unwanted_row}
use Rattle.scheduler.proofs.Shares.{loads_less}
use Rattle.scheduler.proofs.growing.stop_unwanted.Goals as goal

pub loop-row-preserved : goal.loop-row-preserved
loop-row-preserved c =
    let s = c.args.state.now in
    let job = c.args.job.now in
    let groups = c.args.groups.now in
    let p = part_of c.loop-row.plan in
    let row = c.row-item.result in
    let ids = c.loop-row.plan.stops in
    let within : c.loop-row.row-index < length c.args.rows.now = omega (arith, c.loop-row-test.true) in
    let rest = unwanted_ids groups (drop (c.loop-row.row-index + 1) c.args.rows.now) in
    let here = at_item (unwanted_ids groups) c.args.rows.now c.loop-row.row-index row within c.row-item.is ∙ unwanted_row groups row (drop (c.loop-row.row-index + 1) c.args.rows.now) (sym c.if-is_wanted.ensures) in
    let part = c.in_ok-stop.ensures.part in
    let pushed : c.stop.new.plan.stops ≡ ids ++ row.id ∷ [] = ap (λ (q : PlanPart). q.stops) part in
    let longer : length c.stop.new.plan.stops ≡ length ids + 1 = ap length pushed ∙ length_push ids row.id in
    let few = c.loop-row.invariant.few in
    let below : length ids < 64 = omega (arith, few, c.len.ensures, c.if-len-eq-MOST.false) in
    let allocs = subst (λ (rows : List Allocation). T (is_rising alloc_cmp alloc_id rows)) c.alloc_table.ensures.rows c.ranges-2.ensures.rising in
    let live = subst (IsLiveRow s) (sym c.row-item.is) (all_at (IsLiveRow s) c.args.rows.now c.loop-row.row-index row c.requires.live within) in
    record {
      few = omega (arith, longer, below);
      stops = ap (λ (zs : List AllocId). zs ++ take (64 - length zs) rest) pushed
          ∙ sym (one_taken 64 ids row.id rest below)
          ∙ ap (λ more. ids ++ take (64 - length ids) more) (sym here)
          ∙ c.loop-row.invariant.stops;
      places = ap (λ (q : PlanPart). q.places) part ∙ c.loop-row.invariant.places;
      loads = c.in_ok-stop.ensures.loads
          ∙ ap (map (load_less (fresh ids (Some row)))) c.loop-row.invariant.loads
          ∙ loads_less s job p (Some row) s.nodes allocs (λ a e. subst (IsLiveRow s) (some_same row a e) live)
          ∙ ap (λ q. map (load_of (claimed_by s job q)) s.nodes) (sym part);
    }
