-- What a contract sees of what is kept beside the servers.
use Rattle.std.specs.Prelude.{ℕ, List}
use Rattle.wire.specs.Frames.{Frame}
use Rattle.raft_model.specs.Worlds.{Event}

-- all frames that were ever sent, all events that happened, and how many entries were ever applied
pub record HistoryView (C : Type 0) : Type 0 where
  pub sent : List Frame
  pub trace : List (Event C)
  pub chain : ℕ
