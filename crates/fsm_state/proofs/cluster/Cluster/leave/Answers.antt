use Rattle.std.proofs.Common.{◌≤◌, length, sym, ap, ◌∙◌, arith}
use Rattle.std.proofs.Math.ListN.{drop_of_length-le}
use Rattle.fsm_state.specs.Inner.Steps.{left_steps}
use Rattle.fsm_state.proofs.Losses.{left_is}
use Rattle.fsm_state.proofs.cluster.Cluster.leave.Goals as goal

pub returns : goal.returns
returns c =
    let s = c.args.self.now in
    let rows = c.as_slice-row-items.result.now in
    let end : length rows ≤ c.loop-row.row-index = omega arith in
    sym (ap (λ zs. left_steps c.args.client zs c.loop-row.self) (drop_of_length-le rows end))
    ∙ c.loop-row.invariant
    ∙ ap (λ zs. left_steps c.args.client zs s) (c.as_slice-row-items.ensures ∙ c.in_ok-rows.ensures)
    ∙ left_is c.args.client c.args.node s c.ranges-2.ensures.tables.allocs.rising
