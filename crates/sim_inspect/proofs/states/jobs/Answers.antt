use Rattle.std.proofs.Common.{rules}
use Rattle.sim_inspect.specs.Inner.StateRows.{IsJobReport}
use Rattle.sim_inspect.proofs.Zips.{zips_all, zips_more}
use Rattle.sim_inspect.proofs.states.jobs.Goals as goal

pub loop-row-preserved : goal.loop-row-preserved
loop-row-preserved c =
    zips_more IsJobReport c.args.state.now.jobs _ _ _ _ _ c.in_ok-job.field-0 c.loop-row.invariant c.in-Some.ensures.steps
    c.in_ok-job.ensures c.in_ok-push.ensures.items

pub returns : goal.returns
returns c = zips_all IsJobReport c.args.state.now.jobs _ _ c.loop-row.invariant (search rules)
