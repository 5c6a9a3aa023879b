use Rattle.std.proofs.Common.{subst}
use Rattle.rows.specs.Fits.{RisingNodesFit}
use Rattle.rows.proofs.NodeLaws.{rising_nodes_are_few}
use Rattle.rows.proofs.worker.RisingNodesRanged.ranges.Goals as goal

pub returns : goal.returns
returns c =
    let fit = c.as_slice.ensures.fits in
    let all = c.all_ranges.ensures in
    subst RisingNodesFit c.as_slice.ensures.nodes (fit, (rising_nodes_are_few c.as_slice.result.now fit all, all))
