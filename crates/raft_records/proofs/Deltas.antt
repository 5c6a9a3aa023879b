-- What of a log a step left, found by terms.
use Rattle.std.proofs.Common.{◌≡◌, ◌∙◌, ◌⊎◌, inl, inr, ℕ, zero, suc, ◌+◌, ◌-◌, ◌<◌, ◌≤◌, List, length, take, ap, sym, subst, arith, take_all}
use Rattle.machine_model.specs.declared.entry.Entry.{Entry}
use Rattle.raft_model.specs.Logs.{term_at}
use Rattle.raft_snapshot.specs.Changes.{SameTerms, SharesEntries}
use Rattle.raft_snapshot.specs.Stored.{Stored}
use Rattle.raft_snapshot.proofs.Changes.{shares_over}
use Rattle.raft_core.specs.RaftView.{RaftView}
use Rattle.raft_core.specs.StoredParts.{stored_part, KeepsLog}
use Rattle.raft_records.specs.declared.delta.Before.{Before}
use Rattle.raft_records.specs.Remembering.{SharesTerms, Remembers}

module _ {S C : Type 0} where
  pub joined_both : (first mid now : Stored S C) (j k i : ℕ) → SharesEntries first.log mid.log j → SharesEntries mid.log now.log k → i ≤ j → i ≤ k → (i ≡ j) ⊎ (i ≡ k) → SharesEntries first.log now.log i
  joined_both first mid now j k i one two low high (inl is) = shares_over first.log mid.log now.log j k i one two low high (omega (arith, is, one.covered))
  joined_both first mid now j k i one two low high (inr is) = shares_over first.log mid.log now.log j k i one two low high (omega (arith, is, two.covered, ap (λ b. b.index) one.base))

  -- the first `keep` entries are the same
  module _ (b : Before) (old new : RaftView S C) (r : Remembers b old) (keeps : new.base.index ≡ old.base.index → KeepsLog old new) (base : new.base.index ≡ b.covered) where
    kept_log : KeepsLog old new
    kept_log = keeps (base ∙ r.covered)

    module _ (keep : ℕ) (least : b.commit ≤ keep) (most : keep ≤ b.commit + length b.terms.items) (same : SharesTerms b.commit b.terms.items keep new) (now : keep ≤ length new.server.log) (before : keep ≤ b.last) (covered : b.covered ≤ keep) where
      same_terms : SameTerms old.server.commit keep old.server.log new.server.log
      same_terms zero lt le = absurd (omega (arith, lt))
      same_terms (suc n) lt le =
          let i = n - b.commit in
          let at : b.commit + i ≡ n = omega (arith, lt, r.committed) in
          let within : i < length b.terms.items = omega (arith, at, le, most) in
          let below : b.commit + i < keep = omega (arith, at, le) in
          subst (λ x. term_at old.server.log (suc x) ≡ term_at new.server.log (suc x)) at (sym (r.terms.terms_are i within) ∙ same i below)

      entries : take keep old.server.log ≡ take keep new.server.log
      entries = kept_log.entries keep (omega (arith, least, r.committed)) (omega (arith, before, r.last)) now same_terms

      pub shares : SharesEntries (stored_part old).log (stored_part new).log keep
      shares = record { base = kept_log.base; covered = omega (arith, covered, r.covered); within = (omega (arith, before, r.last), now); same = entries }

      pub nothing : new.server.term ≡ b.term → new.server.vote ≡ b.vote → keep ≡ b.last → length new.server.log ≡ keep → stored_part old ≡ stored_part new
      nothing term vote last size =
          let logs : old.server.log ≡ new.server.log = sym (take_all keep old.server.log (omega (arith, last, r.last))) ∙ entries ∙ take_all keep new.server.log (omega (arith, size)) in
          let with : ℕ → _ → _ → List (Entry C) → Stored S C = λ t v base l. record { term = t; vote = v; log = record { base = base; entries = l } } in
          ap (λ t. with t old.server.vote old.base old.server.log) (sym r.term ∙ sym term)
          ∙ ap (λ v. with new.server.term v old.base old.server.log) (sym r.vote ∙ sym vote)
          ∙ ap (λ x. with new.server.term new.server.vote x old.server.log) (sym kept_log.base)
          ∙ ap (with new.server.term new.server.vote new.base) logs
