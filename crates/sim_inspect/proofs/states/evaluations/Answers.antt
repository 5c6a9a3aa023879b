use Rattle.std.proofs.Common.{rules}
use Rattle.sim_inspect.specs.Inner.StateRows.{IsEvaluationReport}
use Rattle.sim_inspect.proofs.Zips.{zips_all, zips_more}
use Rattle.sim_inspect.proofs.states.evaluations.Goals as goal

pub loop-row-preserved : goal.loop-row-preserved
loop-row-preserved c =
    zips_more (IsEvaluationReport c.args.state.now) c.args.state.now.evals _ _ _ _ _ c.in_ok-evaluation.field-0 c.loop-row.invariant c.in-Some.ensures.steps
    c.in_ok-evaluation.ensures c.in_ok-push.ensures.items

pub returns : goal.returns
returns c = zips_all (IsEvaluationReport c.args.state.now) c.args.state.now.evals _ _ c.loop-row.invariant (search rules)
