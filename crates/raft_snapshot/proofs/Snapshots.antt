-- Snapshots, of a server whose covered entries are filled in.
use Rattle.std.proofs.Common.{◌≡◌, ℕ, ◌-◌, ◌≤◌, nat_lt, nat_le, not, Bool, true, false, if◌then◌else◌, List, ◌++◌, length, take, drop, refl, sym, ap, ◌∙◌, arith, length-take-le}
use Rattle.std.proofs.Math.Seq.{drop-append_seam, take-append_seam}
use Rattle.std.proofs.lemmas.Bool.{leb-false}
use Rattle.std.proofs.lemmas.List.{take-append-drop}
use Rattle.machine_model.specs.declared.entry.Entry.{Entry}
use Rattle.raft_model.specs.Logs.{term_at, last_term}
use Rattle.raft_model.specs.Messages.{Install, InstallReply}
use Rattle.raft_model.specs.Rafts.{Raft, is_leader, reply, following, installed, compacted, beat_body}
use Rattle.raft_model.specs.Steps.{receives}
use Rattle.raft_snapshot.specs.Prefixes.{log_with_prefix, with_prefix, turn_with_prefix, FitsPrefix, takes_snapshot}
use Rattle.raft_snapshot.proofs.Logs.{with_prefix-length, with_prefix-term, with_prefix-drop, with_prefix-install, term_front}

module _ {C : Type 0} (P : List (Entry C)) where
  installed_at : (s : Raft C) (may : FitsPrefix P s) (Q B : List (Entry C)) → length B ≡ length Q → last_term B ≡ last_term Q → (b : Bool) → nat_le (length Q) s.commit ≡ b → (b ≡ false → length P ≤ length Q) → installed (with_prefix P s) Q ≡ with_prefix (if not b then Q else P) (installed s B)
  installed_at s may Q B each term true is low = let also : nat_le (length B) s.commit ≡ true = rw each is in rw (is, also) refl
  installed_at s may Q B each term false is low =
      let also : nat_le (length B) s.commit ≡ false = rw each is in
      rw (is, also, with_prefix-install P s.log may.within may.term Q B each term (low refl), each) refl

  pub installed-with_prefix : (s : Raft C) → FitsPrefix P s → (Q B : List (Entry C)) → length B ≡ length Q → last_term B ≡ last_term Q → installed (with_prefix P s) Q ≡ with_prefix (if not (nat_le (length Q) s.commit) then Q else P) (installed s B)
  installed-with_prefix s may Q B each term = installed_at s may Q B each term (nat_le (length Q) s.commit) refl (λ e. omega (arith, leb-false (length Q) s.commit e, may.committed))

  received_at : (noop : C) (n me : ℕ) (s : Raft C) → FitsPrefix P s → (from term : ℕ) (Q B : List (Entry C)) → length B ≡ length Q → last_term B ≡ last_term Q → (x y : Bool) → nat_lt term s.term ≡ x → is_leader s.mode ≡ y → receives noop n me (with_prefix P s) from term (Install Q) ≡ turn_with_prefix (if takes_snapshot term (length Q) s then Q else P) (receives noop n me s from term (Install B))
  received_at noop n me s may from term Q B each last true y low leads = rw low refl
  received_at noop n me s may from term Q B each last false true low leads = rw (low, leads) refl
  received_at noop n me s may from term Q B each last false false low leads =
      let done = installed-with_prefix (following s from) (record { within = may.within; term = may.term; committed = may.committed }) Q B each last in
      let choice = if not (nat_le (length Q) s.commit) then Q else P in
      rw (low, leads) (ap (λ (x : Raft C). reply me x from (InstallReply term (length Q))) done ∙ ap (λ (i : ℕ). reply me (with_prefix choice (installed (following s from) B)) from (InstallReply term i)) (sym each))

  -- An Install of Q, where the code sees B in its place.
  pub received-install : (noop : C) (n me : ℕ) (s : Raft C) → FitsPrefix P s → (from term : ℕ) (Q B : List (Entry C)) → length B ≡ length Q → last_term B ≡ last_term Q → receives noop n me (with_prefix P s) from term (Install Q) ≡ turn_with_prefix (if takes_snapshot term (length Q) s then Q else P) (receives noop n me s from term (Install B))
  received-install noop n me s may from term Q B each last = received_at noop n me s may from term Q B each last (nat_lt term s.term) (is_leader s.mode) refl refl

  -- what a beat says to a server: all that is covered, or what the log shows
  beat_at : (s : Raft C) → FitsPrefix P s → s.covered ≡ length P → (next : ℕ) (b : Bool) → nat_le next s.covered ≡ b → beat_body (with_prefix P s) next ≡ (if b then Install P else beat_body s next)
  beat_at s may count next true is = rw (is, count) (ap (λ (l : List (Entry C)). Install l) (take-append_seam P (drop (length P) s.log)))
  beat_at s may count next false is =
      let past : length P ≤ next - 1 = omega (arith, count, leb-false next s.covered is) in
      rw (is, with_prefix-term P s.log may.within may.term (next - 1) past, with_prefix-drop P s.log may.within may.term (next - 1) past) refl

  pub beat-with_prefix : (s : Raft C) → FitsPrefix P s → s.covered ≡ length P → (next : ℕ) → beat_body (with_prefix P s) next ≡ (if nat_le next s.covered then Install P else beat_body s next)
  beat-with_prefix s may count next = beat_at s may count next (nat_le next s.covered) refl

  -- what is covered after a Compact, and how the log shows then
  pub compacted-with_prefix : (s : Raft C) → FitsPrefix P s → s.commit ≤ length s.log → (B : List (Entry C)) → length B ≡ s.commit → compacted (with_prefix P s) ≡ with_prefix (take s.commit (log_with_prefix P s.log)) (record (compacted s) { log = B ++ drop s.commit s.log })
  compacted-with_prefix s may within B each =
      let X = log_with_prefix P s.log in
      let size : length (take s.commit X) ≡ s.commit = length-take-le s.commit X (omega (arith, within, with_prefix-length P s.log may.within may.term)) in
      let behind : drop (length (take s.commit X)) (B ++ drop s.commit s.log) ≡ drop s.commit X = ap (λ (i : ℕ). drop i (B ++ drop s.commit s.log)) (size ∙ sym each) ∙ drop-append_seam B (drop s.commit s.log) ∙ sym (with_prefix-drop P s.log may.within may.term s.commit may.committed) in
      rw (behind, take-append-drop s.commit X) refl

  pub compacted-term : (s : Raft C) → FitsPrefix P s → s.commit ≤ length s.log → last_term (take s.commit (log_with_prefix P s.log)) ≡ term_at s.log s.commit
  compacted-term s may within =
      let X = log_with_prefix P s.log in
      let size : length (take s.commit X) ≡ s.commit = length-take-le s.commit X (omega (arith, within, with_prefix-length P s.log may.within may.term)) in
      ap (term_at (take s.commit X)) size
      ∙ sym (ap (λ (l : List (Entry C)). term_at l s.commit) (sym (take-append-drop s.commit X)) ∙ term_front (take s.commit X) (drop s.commit X) s.commit (omega (arith, size)))
      ∙ with_prefix-term P s.log may.within may.term s.commit may.committed
