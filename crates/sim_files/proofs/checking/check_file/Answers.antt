use Rattle.sim_files.proofs.Reasons.{bad_file, good_file}
use Rattle.sim_files.proofs.checking.check_file.Goals as goal

pub returns-clause-good : goal.returns-clause-good
returns-clause-good g c =
    good_file _ c.in_ok-bytes.bytes.items c.check_bytes.result c.in_ok-bytes.ensures.bytes (rw c.as_slice.ensures.value at c.check_bytes.ensures.ok)

pub returns-clause-bad : goal.returns-clause-bad
returns-clause-bad g c =
    bad_file _ c.in_ok-bytes.bytes.items c.check_bytes.result c.in_ok-bytes.ensures.bytes (rw c.as_slice.ensures.value at c.check_bytes.ensures.fault)
