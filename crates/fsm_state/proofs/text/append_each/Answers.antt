use Rattle.std.proofs.Common.{◌≡◌, List, subst, sym, rules}
use Rattle.rows.specs.Versions.{newest}
use Rattle.fsm_tables.specs.Runs.{rows_left}
use Rattle.fsm_state.proofs.StateTexts.{WrittenBut, written_none, written_one, written_part, written_all}
use Rattle.fsm_state.proofs.text.append_each.Goals as goal

pub loop-row-init : goal.loop-row-init
loop-row-init g c =
    let f = g.T.Field.format newest in
    let rows = c.args.table.now in
    let old = c.args.out.now.items in
    let all : rows_left c.into_iter-row-iterator.result ≡ rows = search rules in
    subst (λ (left : List _). WrittenBut f left rows old old) (sym all) (written_none f rows old)

pub loop-row-preserved : goal.loop-row-preserved
loop-row-preserved g c =
    let f = g.T.Field.format newest in
    let rows = c.args.table.now in
    let was = subst (λ (left : List _). WrittenBut f left rows c.args.out.now.items c.loop-row.out.items) c.in-Some.ensures.steps c.loop-row.invariant in
    written_one f c.in-Some.row.now (rows_left c.next.new.self) rows c.args.out.now.items c.loop-row.out.items c.append.new.out.items was c.in_ok-append.ensures

pub returns-in_err-append : goal.returns-in_err-append
returns-in_err-append g c = written_part (g.T.Field.format newest) _ c.args.table.now _ c.args.out.now.items c.loop-row.out.items _ c.from_residual.result c.from_residual.ensures.0 c.loop-row.invariant c.in_err-append.ensures

pub returns : goal.returns
returns g c =
    let f = g.T.Field.format newest in
    let rows = c.args.table.now in
    written_all f rows c.args.out.now.items c.loop-row.out.items (subst (λ (left : List _). WrittenBut f left rows c.args.out.now.items c.loop-row.out.items) c.in-None.ensures.steps.0 c.loop-row.invariant)
