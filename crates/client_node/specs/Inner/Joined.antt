-- What was changed of the ids that were ever started.
use Rattle.std.specs.Prelude.{ℕ, if◌then◌else◌, nat_eq}
use Rattle.client_node.specs.declared.changes.IdsChange.{IdsChange}
use Rattle.client_node.specs.declared.changes.IdsChange.TheVariants.{Nothing, Behind}

-- from so many to so many, of which those are the first
abbrev pub change_between : ℕ → ℕ → IdsChange
change_between before now = if nat_eq now before then Nothing else Behind before

-- one, and another behind it
abbrev pub joined_ids : IdsChange → IdsChange → IdsChange
joined_ids Nothing second = second
joined_ids (Behind count) second = Behind count
