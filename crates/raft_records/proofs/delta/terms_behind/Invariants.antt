use Rattle.std.proofs.Common.{◌≡◌, ◌+◌, ◌<◌, ◌≤◌, ℕ, suc, max, length}
use Rattle.std.specs.Prelude.{slice_index}
use Rattle.raft_model.specs.Logs.{term_at}
use Rattle.raft_records.proofs.delta.terms_behind.Given as goal

-- the terms so far
abbrev pub invariant-entries : goal.invariant-entries
invariant-entries g l = record {
  is : l.fn.from + length l.terms.items ≡ l.at;
  most : l.at ≤ max l.fn.from (length l.server.server.log);
  are : (i : ℕ) → i < length l.terms.items → slice_index l.terms.items i ≡ term_at l.server.server.log (suc (l.fn.from + i));
}
