use Rattle.std.proofs.Common.{◌≤◌, length, sym, ap, subst, ◌∙◌}
use Rattle.fsm_state.specs.Inner.Steps.{is_named_in}
use Rattle.fsm_state.proofs.Touching.{jobs_are, few_at}
use Rattle.fsm_state.proofs.cluster.Cluster.count_all.Goals as goal

pub count_each-requires : goal.count_each-requires
count_each-requires c =
    let jobs = c.ranges-2.ensures.tables.jobs in
    let s = c.args.self.now in
    (few_at (is_named_in c.args.names.now) s.jobs _ (jobs_are c.args.names.now s.jobs jobs.rising c.len-count.ensures.ordered) jobs.few).1

pub returns-clause-count : goal.returns-clause-count
returns-clause-count c =
    c.count_each.ensures ∙ ap length (jobs_are c.args.names.now c.args.self.now.jobs c.ranges-2.ensures.tables.jobs.rising c.len-count.ensures.ordered)

pub returns-clause-few : goal.returns-clause-few
returns-clause-few c =
    let jobs = c.ranges-2.ensures.tables.jobs in
    let s = c.args.self.now in
    subst (λ n. n ≤ length s.jobs) (sym c.count_each.ensures)
    (few_at (is_named_in c.args.names.now) s.jobs _ (jobs_are c.args.names.now s.jobs jobs.rising c.len-count.ensures.ordered) jobs.few).0
