-- What a watcher is shown of a server's step, and what it sees of the steps of the servers for
-- which the shown ones stand.
use Rattle.std.proofs.Common.{◌≡◌, ℕ, ◌≤◌, Bool, true, false, nat_lt, List, take, drop, refl, ap, ◌∙◌, arith}
use Rattle.std.proofs.lemmas.Slice.{drop-append-drop}
use Rattle.machine_model.specs.MachineSpec.{MachineSpec}
use Rattle.machine_model.specs.declared.entry.Entry.{Entry}
use Rattle.raft_model.specs.Logs.{state_after}
use Rattle.raft_model.specs.Messages.{Append}
use Rattle.raft_model.specs.Rafts.{Raft, is_leader, term_observed, following, follows_append, is_held}
use Rattle.raft_model.specs.Steps.{receives}
use Rattle.raft_snapshot.specs.Bases.{Base}
use Rattle.raft_snapshot.specs.Compacted.{IsCompacted, IsCompactionOf, compacted_state}
use Rattle.raft_snapshot.specs.Watching.{SeesWhere, SeesStep, ShowsWhere, ShowsStep}
use Rattle.raft_snapshot.proofs.Logs.{with_prefix-take}
use Rattle.raft_snapshot.proofs.Shown.{may_fill, state_shown}
use Rattle.raft_snapshot.proofs.Watches.{nothing_seen}

module _ {S C W : Type 0} (m : MachineSpec S C) (Sees : W → ℕ → Entry C → S → W → Type 0) where
  -- one that does not lead shows nothing, nor one whose commit stays
  pub idle : (base : Base S) (s t : Raft C) (w : W) → is_leader t.mode ≡ false → ShowsStep m Sees base s t w w
  idle base s t w other = rw other refl

  still_at : (b : Bool) (base : Base S) (s t : Raft C) (w : W) → is_leader t.mode ≡ b → t.commit ≡ s.commit → ShowsStep m Sees base s t w w
  still_at false base s t w is same = rw is refl
  still_at true base s t w is same = rw (is, same) (nothing_seen m Sees t.term (compacted_state m base s) s.commit t.log w)

  pub still : (base : Base S) (s t : Raft C) (w : W) → t.commit ≡ s.commit → ShowsStep m Sees base s t w w
  still base s t w same = still_at (is_leader t.mode) base s t w refl same

  met_commit : (term : ℕ) (s : Raft C) (b : Bool) → nat_lt s.term term ≡ b → (term_observed term s).commit ≡ s.commit
  met_commit term s true is = rw is refl
  met_commit term s false is = rw is refl

  follows_idle : (me : ℕ) (s : Raft C) (from prev prev_term commit : ℕ) (entries : List (Entry C)) (b : Bool) → is_held s prev prev_term ≡ b → is_leader s.mode ≡ false → is_leader (follows_append me s from prev prev_term commit entries).server.mode ≡ false
  follows_idle me s from prev prev_term commit entries true is other = rw is other
  follows_idle me s from prev prev_term commit entries false is other = rw is other

  append_at : (base : Base S) (n me : ℕ) (s t : Raft C) (from term prev prev_term commit : ℕ) (entries : List (Entry C)) (w : W) (a b : Bool) → t.commit ≡ s.commit → nat_lt term t.term ≡ a → is_leader t.mode ≡ b → ShowsStep m Sees base s (receives m.noop n me t from term (Append prev prev_term commit entries)).server w w
  append_at base n me s t from term prev prev_term commit entries w true b same low leads = rw low (still base s t w same)
  append_at base n me s t from term prev prev_term commit entries w false true same low leads = rw (low, leads) (still base s t w same)
  append_at base n me s t from term prev prev_term commit entries w false false same low leads =
      let f = following t from in
      rw (low, leads) (idle base s (follows_append me f from prev prev_term commit entries).server w (follows_idle me f from prev prev_term commit entries (is_held f prev prev_term) refl refl))

  -- who takes a leader's entries shows nothing
  pub after_append : (base : Base S) (n me : ℕ) (s : Raft C) (from term prev prev_term commit : ℕ) (entries : List (Entry C)) (w : W) → ShowsStep m Sees base s (receives m.noop n me (term_observed term s) from term (Append prev prev_term commit entries)).server w w
  after_append base n me s from term prev prev_term commit entries w =
      let t = term_observed term s in
      append_at base n me s t from term prev prev_term commit entries w (nat_lt term t.term) (is_leader t.mode) (met_commit term s (nat_lt s.term term) refl) refl refl

  seen_at : (b : Bool) (base after_base : Base S) (shown after : Raft C) → IsCompacted base shown → IsCompacted after_base after → (b ≡ true → after_base.index ≤ shown.commit) → (s t : Raft C) → IsCompactionOf m base shown s → IsCompactionOf m after_base after t → (w v : W) → ShowsWhere m Sees b base shown after w v → SeesWhere m Sees b s t w v
  seen_at true base after_base shown after is next behind s t r q w v it =
      let may = may_fill m after_base after next q.covered q.fits in
      let term : t.term ≡ after.term = ap (λ (z : Raft C). z.term) q.is in
      let state : state_after m (take s.commit s.log) ≡ compacted_state m base shown = state_shown m base shown s is r in
      let log : drop s.commit (take t.commit t.log) ≡ drop shown.commit (take after.commit after.log) =
      ap (λ (z : Raft C). drop z.commit (take t.commit t.log)) r.is
      ∙ ap (λ (z : Raft C). drop shown.commit (take z.commit z.log)) q.is
      ∙ ap (λ (l : List (Entry C)). drop shown.commit l) (with_prefix-take q.covered after.log may.within may.term after.commit may.committed)
      ∙ drop-append-drop _ (take after.commit after.log) q.covered shown.commit (omega (arith, q.fits.index, behind refl)) refl in
      rw (term, state, log) it
  seen_at false base after_base shown after is next behind s t r q w v it = it

  -- what is shown of a step is what is seen of each two servers that stand behind it
  pub sees_filled : (base after_base : Base S) (shown after : Raft C) → IsCompacted base shown → IsCompacted after_base after → (is_leader after.mode ≡ true → after_base.index ≤ shown.commit) → (s t : Raft C) → IsCompactionOf m base shown s → IsCompactionOf m after_base after t → (w v : W) → ShowsStep m Sees base shown after w v → SeesStep m Sees s t w v
  sees_filled base after_base shown after is next behind s t r q w v shows =
      let same : is_leader t.mode ≡ is_leader after.mode = ap (λ (z : Raft C). is_leader z.mode) q.is in
      rw same (seen_at (is_leader after.mode) base after_base shown after is next behind s t r q w v shows)
