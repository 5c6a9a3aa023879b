use Rattle.std.proofs.Common.{append_assoc}
use Rattle.sim_scenario.proofs.noting.TooLargeDisplay.fmt.Goals as goal

pub returns-clause-writes : goal.returns-clause-writes
returns-clause-writes g c =
    let job = c.as_str-job.ensures in
    let group = c.as_str-group.ensures in
    let class = c.as_str-class.ensures in
    let cpu = c.get-cpu.ensures.value in
    let mem = c.get-mem.ensures.value in
    let disk = c.get-disk.ensures.value in
    let written = simp (job, group, class, cpu, mem, disk, append_assoc) at c.write.ensures.writes in
    simp append_assoc written
