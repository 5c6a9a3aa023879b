use Rattle.std.proofs.Common.{arith, rules}
use Rattle.sim_files.proofs.Replays.{all_passed, one_more_passed}
use Rattle.sim_files.proofs.replaying.behind_lines.Goals as goal

pub loop-init : goal.loop-init
loop-init c front back printable count is = (front, printable, omega (arith, count), is)

pub loop-preserved : goal.loop-preserved
loop-preserved c front back printable count is =
    one_more_passed c.loop.rest.now back c.loop.counter c.args.count c.next_line.result.0.now c.next_line.result.1.now (search rules) c.next_line.ensures
    (c.loop.invariant front back printable count is)

pub returns : goal.returns
returns c front back printable count is =
    all_passed c.loop.rest.now back c.loop.counter c.args.count (search rules) (c.loop.invariant front back printable count is)
