-- What a ticket, and a term in the log, are to each server that a value stands for.
use Rattle.std.proofs.Common.{◌≡◌, ℕ, suc, ◌<◌, inl, inr, MatchOption, Option, Some, None, List, [], ◌∷◌, ◌++◌, length, sym, ap, ◌∙◌, subst, arith}
use Rattle.machine_model.specs.MachineSpec.{MachineSpec}
use Rattle.machine_model.specs.declared.entry.Entry.{Entry}
use Rattle.raft_model.specs.Logs.{term_at}
use Rattle.raft_model.specs.Rafts.{Raft, extended}
use Rattle.raft_snapshot.specs.Bases.{Base, IsBaseOf}
use Rattle.raft_snapshot.specs.Prefixes.{log_with_prefix, with_prefix}
use Rattle.raft_snapshot.specs.Compacted.{IsCompacted, IsCompactionOf}
use Rattle.raft_snapshot.proofs.Logs.{with_prefix-length, with_prefix-term, with_prefix-grown}
use Rattle.raft_snapshot.proofs.Shown.{may_fill}
use Rattle.raft_core.specs.RaftView.{RaftView}
use Rattle.raft_core.specs.Steps.{RefinesRaft}
use Rattle.raft_core.specs.Tickets.{IsTicket, HasTermAt, HasNoTermAt}

module _ {S C : Type 0} (m : MachineSpec S C) (view : RaftView S C) (shown : IsCompacted view.base view.server) where
  -- the log of a server that it stands for
  module _ (s : Raft C) (r : RefinesRaft m view s) where
    log_is : s.log ≡ log_with_prefix r.covered view.server.log
    log_is = ap (λ (x : Raft C). x.log) r.is

    covered_is : s.covered ≡ view.server.covered
    covered_is = ap (λ (x : Raft C). x.covered) r.is

    size_is : length s.log ≡ length view.server.log
    size_is =
        let may = may_fill m view.base view.server shown r.covered r.fits in
        ap length log_is ∙ with_prefix-length r.covered view.server.log may.within may.term

    term_is : (index : ℕ) → view.server.covered < index → term_at s.log index ≡ term_at view.server.log index
    term_is index behind =
        let may = may_fill m view.base view.server shown r.covered r.fits in
        ap (λ (l : List (Entry C)). term_at l index) log_is
        ∙ with_prefix-term r.covered view.server.log may.within may.term index (omega (arith, r.fits.index, shown.count, behind))

    known_of : (index : ℕ) (o : Option ℕ) → MatchOption o (HasNoTermAt view.server index) (HasTermAt view.server index) → MatchOption o (HasNoTermAt s index) (HasTermAt s index)
    known_of index None none = elim none [
      | inl covered ↦ inl (omega (arith, covered, covered_is))
      | inr past ↦ inr (omega (arith, past, size_is))
    ]
    known_of index (Some t) has = record {
      behind = omega (arith, has.behind, covered_is);
      within = omega (arith, has.within, size_is);
      is = has.is ∙ sym (term_is index has.behind);
    }

  -- the term at an index, or that there is none, is the same for each of them
  pub term_each : (index : ℕ) (o : Option ℕ) → MatchOption o (HasNoTermAt view.server index) (HasTermAt view.server index) →
      (s : Raft C) → RefinesRaft m view s → MatchOption o (HasNoTermAt s index) (HasTermAt s index)
  term_each index o known s r = known_of s r index o known

  -- a command that was appended is the last entry of each of them
  pub ticket_each : (left : Base S) (new : Raft C) (command : C) (index term : ℕ) → left ≡ view.base → new ≡ extended view.server command →
      index ≡ suc (length view.server.log) → term ≡ view.server.term → (s : Raft C) → IsCompactionOf m left new s → IsTicket s command index term
  ticket_each left new command index term base server place own s r =
      let P = r.covered in
      let fits : IsBaseOf m view.base P = subst (λ (b : Base S). IsBaseOf m b P) base r.fits in
      let may = may_fill m view.base view.server shown P fits in
      let old : Entry C = record { term = view.server.term; command = command } in
      let entry : Entry C = record { term = term; command = command } in
      let same : old ≡ entry = ap (λ (t : ℕ). let e : Entry C = record { term = t; command = command } in e) (sym own) in
      let log : s.log ≡ log_with_prefix P (view.server.log ++ old ∷ []) = ap (λ (x : Raft C). x.log) r.is ∙ ap (λ (x : Raft C). log_with_prefix P x.log) server in
      record {
        before = log_with_prefix P view.server.log;
        log = log ∙ (sym (with_prefix-grown P view.server.log may.within may.term (old ∷ [])) ∙ ap (λ (e : Entry C). log_with_prefix P view.server.log ++ e ∷ []) same);
        place = place ∙ ap suc (sym (with_prefix-length P view.server.log may.within may.term));
        own = own ∙ (sym (ap (λ (x : Raft C). x.term) server) ∙ sym (ap (λ (x : Raft C). x.term) r.is));
      }
