-- What a server stores. (Raft, Figure 2, "Persistent state"; section 7.)
use Rattle.std.specs.Prelude.{ℕ, Option}
use Rattle.raft_snapshot.specs.Kept.{Kept}

pub record Stored (S C : Type 0) : Type 0 where
  pub term : ℕ
  pub vote : Option ℕ
  pub log : Kept S C
