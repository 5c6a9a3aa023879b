-- The groups whose allocations a job wants.
use Rattle.std.specs.Prelude.{Option, Some, None, List, [], if◌then◌else◌}
use Rattle.rows.specs.declared.job.Group.{Group}
use Rattle.rows.specs.declared.job.Job.{Job}

abbrev pub wanted_groups : Option Job → List Group
wanted_groups None = []
wanted_groups (Some j) = if j.stopped then [] else j.groups
