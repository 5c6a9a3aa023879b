-- What a server stores, by what is shown of it, and what a step leaves of its log.
use Rattle.std.specs.Prelude.{◌≡◌}
use Rattle.raft_model.specs.Steps.{Compact}
use Rattle.raft_snapshot.specs.Changes.{TermsTell}
use Rattle.raft_snapshot.specs.Stored.{Stored}
use Rattle.raft_core.specs.Inputs.{Handed, Own}
use Rattle.raft_core.specs.RaftView.{RaftView}

-- the stored part of a value: it is the same whether the server is up or down
abbrev pub stored_part : {S C : Type 0} → RaftView S C → Stored S C
stored_part view = record {
  term = view.server.term;
  vote = view.server.vote;
  log = record { base = view.base; entries = view.server.log };
}

-- One snapshot, and behind the commit index the terms tell how much of the log is the same.
pub record KeepsLog {S C : Type 0} (old new : RaftView S C) : Type 0 where
  pub base : new.base ≡ old.base
  pub entries : TermsTell old.server.commit old.server.log new.server.log

-- So it is where the snapshot covers as many entries as before. Of a Compact nothing is said.
abbrev pub MayKeepLog : {S C : Type 0} → Handed C → RaftView S C → RaftView S C → Type 0
MayKeepLog (Own Compact) old new = Unit {0}
MayKeepLog h old new = new.base.index ≡ old.base.index → KeepsLog old new
