-- What the goals of writers want.
use Rattle.std.proofs.Common.{append_assoc}

pub ruleset appends = append_assoc
