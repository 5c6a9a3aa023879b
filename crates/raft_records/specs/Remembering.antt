-- What is remembered of a server while it takes an item.
use Rattle.std.specs.Prelude.{◌≡◌, ◌+◌, ◌<◌, ◌≤◌, ℕ, suc, max, List, length, slice_index}
use Rattle.raft_model.specs.Logs.{term_at}
use Rattle.raft_core.specs.RaftView.{RaftView}
use Rattle.raft_records.specs.declared.delta.Before.{Before}

-- the terms of the entries behind an index, or of the first of them
pub record HasTerms {S C : Type 0} (from : ℕ) (terms : List ℕ) (view : RaftView S C) : Type 0 where
  pub each : from + length terms ≤ max from (length view.server.log)
  pub terms_are : (i : ℕ) → i < length terms → slice_index terms i ≡ term_at view.server.log (suc (from + i))

-- up to this index the entries behind the other one have these terms
abbrev pub SharesTerms : {S C : Type 0} → ℕ → List ℕ → ℕ → RaftView S C → Type 0
SharesTerms from terms keep view = (i : ℕ) → from + i < keep → slice_index terms i ≡ term_at view.server.log (suc (from + i))

-- its term and vote, how many entries are covered and committed, and the terms of those behind
pub record Remembers {S C : Type 0} (b : Before) (view : RaftView S C) : Type 0 where
  pub term : b.term ≡ view.server.term
  pub vote : b.vote ≡ view.server.vote
  pub covered : b.covered ≡ view.base.index
  pub committed : b.commit ≡ view.server.commit
  pub last : b.last ≡ length view.server.log
  pub terms : HasTerms b.commit b.terms.items view
