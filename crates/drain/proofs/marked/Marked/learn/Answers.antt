use Rattle.std.proofs.Common.{◌&&◌, ◌||◌, ap, ◌∙◌}
use Rattle.std.specs.List.{list_any}
use Rattle.std.specs.BTreeSet.{contains}
use Rattle.rows.specs.declared.allocation.Allocation.{Allocation}
use Rattle.rows.specs.Keys.{name_cmp}
use Rattle.group_model.specs.Drains.{same_group, group_moves}
use Rattle.drain.proofs.Marking.{job_more}
use Rattle.drain.proofs.marked.Marked.learn.Goals as goal

pub returns-clause-marked : goal.returns-clause-marked
returns-clause-marked c = λ a.
    let marks = λ (b : Allocation). b.migrate && same_group a b in
    let rows = list_any marks c.as_slice.result.now in
    let old = contains name_cmp c.args.self.now.jobs a.job && group_moves c.args.state.now.allocs a in
    c.in_ok-add_marked.ensures a ∙ ap (λ b. b || rows) (c.requires a)
    ∙ ap (λ zs. old || list_any marks zs) (c.as_slice.ensures ∙ c.in_ok-rows.ensures)
    ∙ job_more a c.args.job.now c.args.state.now.allocs (contains name_cmp c.args.self.now.jobs a.job) (contains name_cmp c.insert.new.self a.job) (c.in_ok-insert.ensures.updates.0 a.job)
