-- What the writers' goals want.
use Rattle.std.proofs.Common.{append_assoc}
use Rattle.std.proofs.lemmas.List.{drop-drop}

pub ruleset appends = append_assoc

pub ruleset drops = drop-drop
