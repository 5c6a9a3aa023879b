-- What led from one stored part to another, where the first entries stay: the term, the vote, how
-- many entries stay and the last one's term, and those behind them. It is spelled as what stands in
-- front of a state.
use Rattle.std.specs.Prelude.{◌≡◌, ◌<◌, ◌≤◌, ℕ, ◌&&◌, ◌==◌, nat_le, Option, Some, None, List, ◌++◌, length, take, drop, if◌then◌else◌}
use Rattle.machine_model.specs.declared.entry.Entry.{Entry}
use Rattle.raft_model.specs.Logs.{term_at}
use Rattle.raft_snapshot.specs.Kept.{Kept}
use Rattle.raft_snapshot.specs.Stored.{Stored}
use Rattle.raft_snapshot.specs.Texts.{Front}

-- the change to this term, vote and log, where so many entries stay
abbrev pub log_change : {S C : Type 0} → ℕ → Option ℕ → Kept S C → ℕ → Front C
log_change term vote log keep = record {
  term = term;
  vote = vote;
  index = keep;
  index_term = term_at log.entries keep;
  entries = drop keep log.entries;
}

-- What is stored after a change. There is none where its entries do not follow: the log does not
-- reach them, or has another term in front of them, or its snapshot covers more.
abbrev pub changed_part : {S C : Type 0} → Stored S C → Front C → Option (Stored S C)
changed_part s change =
    if nat_le s.log.base.index change.index && (nat_le change.index (length s.log.entries) && (term_at s.log.entries change.index == change.index_term))
    then Some (record { term = change.term; vote = change.vote; log = record { base = s.log.base; entries = take change.index s.log.entries ++ change.entries } })
    else None

-- both have one snapshot, and so many first entries, among which are those that it covers
pub record SharesEntries {S C : Type 0} (old new : Kept S C) (keep : ℕ) : Type 0 where
  pub base : new.base ≡ old.base
  pub covered : old.base.index ≤ keep
  pub within : (keep ≤ length old.entries) × (keep ≤ length new.entries)
  pub same : take keep old.entries ≡ take keep new.entries

-- the entries behind the first c, up to the k-th, have the same terms
abbrev pub SameTerms : {C : Type 0} → ℕ → ℕ → List (Entry C) → List (Entry C) → Type 0
SameTerms c k A B = (i : ℕ) → c < i → i ≤ k → term_at A i ≡ term_at B i

-- Behind the first c entries, as far as the terms of two logs are the same, so are the logs. It is
-- so of a server's log before and after a step, with c its commit index, and not of any two logs.
abbrev pub TermsTell : {C : Type 0} → ℕ → List (Entry C) → List (Entry C) → Type 0
TermsTell c old new = (k : ℕ) → c ≤ k → k ≤ length old → k ≤ length new → SameTerms c k old new → take k old ≡ take k new
