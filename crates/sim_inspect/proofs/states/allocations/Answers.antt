use Rattle.std.proofs.Common.{rules}
use Rattle.sim_inspect.specs.Inner.StateRows.{IsAllocationReport}
use Rattle.sim_inspect.proofs.Zips.{zips_all, zips_more}
use Rattle.sim_inspect.proofs.states.allocations.Goals as goal

pub loop-row-preserved : goal.loop-row-preserved
loop-row-preserved c =
    zips_more IsAllocationReport c.args.state.now.allocs _ _ _ _ _ c.in_ok-allocation.field-0 c.loop-row.invariant c.in-Some.ensures.steps
    c.in_ok-allocation.ensures c.in_ok-push.ensures.items

pub returns : goal.returns
returns c = zips_all IsAllocationReport c.args.state.now.allocs _ _ c.loop-row.invariant (search rules)
