use Rattle.rows.specs.Versions.{newest}
use Rattle.fields.proofs.Loop.{written_more, written_all, written_part}
use Rattle.fields.proofs.list.append_items.Goals as goal

pub returns-in_err-append : goal.returns-in_err-append
returns-in_err-append g c = written_part (g.F.Field.format newest) _ _ _ _ _ _ c.from_residual.result c.from_residual.ensures.0 c.loop-value.invariant c.in_err-append.ensures

pub loop-value-preserved : goal.loop-value-preserved
loop-value-preserved g c = written_more (g.F.Field.format newest) _ _ _ _ _ c.value-item.result c.loop-value-test.true c.value-item.is c.loop-value.invariant c.in_ok-append.ensures

pub returns : goal.returns
returns g c = written_all (g.F.Field.format newest) _ _ _ _ c.loop-value-test.false c.loop-value.invariant
