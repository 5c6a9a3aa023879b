use Rattle.std.proofs.Common.{[], List, T, map, sym, ap, subst, ◌∙◌}
use Rattle.rows.specs.declared.allocation.Allocation.{Allocation}
use Rattle.rows.specs.Keys.{alloc_cmp, alloc_id}
use Rattle.rows.specs.Rising.{is_rising}
use Rattle.group_model.specs.Scheduling.{claimed_by}
use Rattle.scheduler.specs.Inner.Loads.{load_of}
use Rattle.scheduler.specs.Inner.Growing.{AreLiveRows, first_unwanted}
use Rattle.scheduler.proofs.Found.{job_live}
use Rattle.scheduler.proofs.Names.{unwanted_of_job}
use Rattle.scheduler.proofs.Shares.{nothing_claimed}
use Rattle.scheduler.proofs.growing.first_stops.Goals as goal

pub stop_unwanted-requires-clause-loads : goal.stop_unwanted-requires-clause-loads
stop_unwanted-requires-clause-loads c =
    let s = c.args.state.now in
    let job = c.args.job.now in
    c.in_ok-loads_of.ensures
    ∙ ap (λ cs. map (load_of cs) s.nodes) (nothing_claimed s job ∙ (λ i. claimed_by s job (record { stops = sym c.new.ensures i; places = sym c.new-2.ensures i })))

pub stop_unwanted-requires-clause-live : goal.stop_unwanted-requires-clause-live
stop_unwanted-requires-clause-live c =
    let s = c.args.state.now in
    let allocs = subst (λ (rows : List Allocation). T (is_rising alloc_cmp alloc_id rows)) c.alloc_table.ensures.rows c.ranges-2.ensures.rising in
    subst (AreLiveRows s) (sym (c.as_slice.ensures ∙ c.in_ok-rows.ensures)) (job_live s c.args.job.now allocs)

pub returns-clause-part : goal.returns-clause-part
returns-clause-part c =
    c.in_ok-stop_unwanted.ensures.part
    ∙ (λ i. record {
      stops = ((λ j. first_unwanted (c.wanted_groups-groups.ensures j) ((c.as_slice.ensures ∙ c.in_ok-rows.ensures) j)) ∙ unwanted_of_job c.args.state.now c.args.job.now) i;
      places = [];
    })
