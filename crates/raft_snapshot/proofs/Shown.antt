-- Servers of the definitions for which a base and a shown server stand, and what an Install, a
-- beat, a Compact, a crash and a restart make of both.
use Rattle.std.proofs.Common.{◌≡◌, ℕ, zero, suc, ◌≤◌, nat_lt, nat_le, not, Bool, true, false, if◌then◌else◌, List, [], ◌++◌, length, take, drop, refl, sym, ap, ◌∙◌, arith, length-take-le, length-append}
use Rattle.std.proofs.lemmas.Bool.{leb-false}
use Rattle.machine_model.specs.MachineSpec.{MachineSpec}
use Rattle.machine_model.specs.After.{after, after_from}
use Rattle.machine_model.specs.declared.entry.Entry.{Entry}
use Rattle.machine_model.proofs.Afters.{after_from-append}
use Rattle.raft_model.specs.Logs.{term_at, last_term, has, install, commands, state_after}
use Rattle.raft_model.specs.Messages.{Install}
use Rattle.raft_model.specs.Rafts.{Raft, RaftTurn, is_leader, term_observed, following, installed, compacted, crashed, restarted, beat_body}
use Rattle.raft_model.specs.Steps.{receives}
use Rattle.raft_snapshot.specs.Bases.{Base, IsBaseOf, noop_prefix, state_from}
use Rattle.raft_snapshot.specs.Prefixes.{log_with_prefix, turn_with_prefix, FitsPrefix, takes_snapshot}
use Rattle.raft_snapshot.specs.Compacted.{IsCompacted, IsCompactionOf, compacted_state, turn_of, base_after, Received, compacted_base, compacted_further}
use Rattle.raft_snapshot.proofs.Applies.{commands-append}
use Rattle.raft_snapshot.proofs.Logs.{term_at_zero, with_prefix-length, with_prefix-take}
use Rattle.raft_snapshot.proofs.Blanks.{noop_prefix-length, last_is, shown_covered}
use Rattle.raft_snapshot.proofs.Rafts.{met-with_prefix, may-met}
use Rattle.raft_snapshot.proofs.Snapshots.{received-install, beat-with_prefix, compacted-with_prefix, compacted-term}

module _ {S C : Type 0} (m : MachineSpec S C) where
  pub may_fill : (base : Base S) (shown : Raft C) → IsCompacted base shown → (P : List (Entry C)) → IsBaseOf m base P → FitsPrefix P shown
  may_fill base shown is P fits = record {
    within = omega (arith, fits.index, is.within);
    term = fits.term ∙ is.term ∙ ap (λ (i : ℕ). term_at shown.log i) (sym fits.index);
    committed = omega (arith, fits.index, is.covered);
  }

  -- the state after a log of which a base covers the first entries
  pub state_filled : (base : Base S) (log P : List (Entry C)) → IsBaseOf m base P → state_from m base log ≡ state_after m (log_with_prefix P log)
  state_filled base log P fits =
      sym (ap (after m) (commands-append P (drop (length P) log))
      ∙ after_from-append m m.empty (commands P) (commands (drop (length P) log))
      ∙ ap (λ (x : S). after_from m x (commands (drop (length P) log))) fits.state
      ∙ ap (λ (i : ℕ). after_from m base.state (commands (drop i log))) fits.index)

  -- all servers that are stood for have applied one state
  pub state_shown : (base : Base S) (shown s : Raft C) → IsCompacted base shown → IsCompactionOf m base shown s → state_after m (take s.commit s.log) ≡ compacted_state m base shown
  state_shown base shown s is r =
      let may = may_fill base shown is r.covered r.fits in
      ap (λ (x : Raft C). state_after m (take x.commit x.log)) r.is
      ∙ ap (state_after m) (with_prefix-take r.covered shown.log may.within may.term shown.commit may.committed)
      ∙ sym (state_filled base (take shown.commit shown.log) r.covered r.fits)

  -- and one state stands behind their whole logs
  pub whole_shown : (base : Base S) (shown s : Raft C) → IsCompactionOf m base shown s → state_after m s.log ≡ state_from m base shown.log
  whole_shown base shown s r = ap (λ (x : Raft C). state_after m x.log) r.is ∙ sym (state_filled base shown.log r.covered r.fits)

  -- ---- an Install

  module _ (n me from term : ℕ) (snapshot : Base S) where
    abbrev B : List (Entry C)
    B = noop_prefix m snapshot.index snapshot.term

    each : length B ≡ snapshot.index
    each = noop_prefix-length m snapshot.index snapshot.term []

    last : (Q : List (Entry C)) → IsBaseOf m snapshot Q → last_term B ≡ last_term Q
    last Q fits = last_is m snapshot.index snapshot.term (λ z. none Q (fits.index ∙ z) fits.term) ∙ sym fits.term where
      none : (L : List (Entry C)) → length L ≡ 0 → last_term L ≡ snapshot.term → snapshot.term ≡ 0
      none L empty is = sym is ∙ ap (term_at L) empty ∙ term_at_zero L

    fits_after : (base : Base S) (shown : Raft C) (P Q : List (Entry C)) (b : Bool) → takes_snapshot term (length Q) (term_observed term shown) ≡ b → takes_snapshot term snapshot.index (term_observed term shown) ≡ b → IsBaseOf m base P → IsBaseOf m snapshot Q → IsBaseOf m (base_after base shown term snapshot) (if takes_snapshot term (length Q) (term_observed term shown) then Q else P)
    fits_after base shown P Q true a b p q = rw (a, b) q
    fits_after base shown P Q false a b p q = rw (a, b) p

    -- what is shown keeps its base
    module _ (base : Base S) (shown : Raft C) (is : IsCompacted base shown) where
      abbrev s : Raft C
      s = term_observed term shown

      met_same : (b : Bool) → nat_lt shown.term term ≡ b → (s.log ≡ shown.log) × (s.commit ≡ shown.commit) × (s.covered ≡ shown.covered)
      met_same true low = rw low (refl, refl, refl)
      met_same false low = rw low (refl, refl, refl)

      met_shown : IsCompacted base s
      met_shown =
          let e = met_same (nat_lt shown.term term) refl in
          record {
            covered = omega (arith, is.covered, e.1);
            within = omega (arith, is.within, ap length e.0);
            term = is.term ∙ ap (λ (l : List (Entry C)). term_at l base.index) (sym e.0);
            count = e.2 ∙ is.count;
          }

      grown : 1 ≤ snapshot.index → (t : Bool) → has s.log (length B) (last_term B) ≡ t → (snapshot.index ≤ length (install s.log B)) × (snapshot.term ≡ term_at (install s.log B) snapshot.index)
      unfolding install
      grown some true there = rw there (omega (arith, each, length-append B (drop (length B) s.log)), shown_covered m snapshot.index snapshot.term (drop (length B) s.log) snapshot.index (λ z. absurd (omega (arith, z, some))) (omega arith))
      grown some false there = rw there (omega (arith, each), sym (ap (term_at B) (sym each) ∙ last_is m snapshot.index snapshot.term (λ z. absurd (omega (arith, z, some)))))

      taken_shown : (t : Bool) → nat_le snapshot.index s.commit ≡ t → IsCompacted (if not t then snapshot else base) (installed (following s from) B)
      taken_shown true at =
          let low : nat_le (length B) s.commit ≡ true = rw each at in
          rw low (record { covered = met_shown.covered; within = met_shown.within; term = met_shown.term; count = met_shown.count })
      taken_shown false at =
          let high : nat_le (length B) s.commit ≡ false = rw each at in
          let g = grown (omega (arith, leb-false snapshot.index s.commit at)) (has s.log (length B) (last_term B)) refl in
          rw high (record { covered = omega (arith, each); within = g.0; term = g.1; count = each })

      shown_at : (x y : Bool) → nat_lt term s.term ≡ x → is_leader s.mode ≡ y → IsCompacted (base_after base shown term snapshot) (turn_of m n me shown from term snapshot).server
      shown_at true y low leads = rw low met_shown
      shown_at false true low leads = rw (low, leads) met_shown
      shown_at false false low leads = rw (low, leads) (taken_shown (nat_le snapshot.index s.commit) refl)

      pub shown_after : IsCompacted (base_after base shown term snapshot) (turn_of m n me shown from term snapshot).server
      shown_after = shown_at (nat_lt term s.term) (is_leader s.mode) refl refl

    -- the receiver of a snapshot, for each list that its message may carry
    pub received : (base : Base S) (shown x : Raft C) → IsCompacted base shown → IsCompactionOf m base shown x → (Q : List (Entry C)) → IsBaseOf m snapshot Q →
        Received m (base_after base shown term snapshot) (turn_of m n me shown from term snapshot) (receives m.noop n me (term_observed term x) from term (Install Q))
    received base shown x is r Q fits =
        let P = r.covered in
        let may = may_fill base shown is P r.fits in
        let e : receives m.noop n me (term_observed term x) from term (Install Q) ≡ turn_with_prefix (if takes_snapshot term (length Q) (term_observed term shown) then Q else P) (turn_of m n me shown from term snapshot) =
        ap (λ (z : Raft C). receives m.noop n me (term_observed term z) from term (Install Q)) r.is
        ∙ ap (λ (z : Raft C). receives m.noop n me z from term (Install Q)) (met-with_prefix P term shown)
        ∙ received-install P m.noop n me (term_observed term shown) (may-met P term shown may) from term Q B (each ∙ sym fits.index) (last Q fits) in
        let c = takes_snapshot term (length Q) (term_observed term shown) in
        record {
          stands = record {
            covered = if c then Q else P;
            fits = fits_after base shown P Q c refl (ap (λ (i : ℕ). takes_snapshot term i (term_observed term shown)) (sym fits.index)) r.fits fits;
            is = ap (λ (t : RaftTurn C). t.server) e;
          };
          shown = shown_after base shown is;
          sent = sym (ap (λ (t : RaftTurn C). t.sent) e);
        }

  -- ---- what is sent

  -- at or below the base: an Install of what is covered
  pub beat_says : (base : Base S) (shown x : Raft C) → IsCompacted base shown → (r : IsCompactionOf m base shown x) → (next : ℕ) → nat_le next base.index ≡ true → beat_body x next ≡ Install r.covered
  beat_says base shown x is r next low =
      let may = may_fill base shown is r.covered r.fits in
      let there : nat_le next shown.covered ≡ true = rw is.count low in
      ap (λ (z : Raft C). beat_body z next) r.is ∙ beat-with_prefix r.covered shown may (is.count ∙ sym r.fits.index) next ∙ ap (λ (b : Bool). if b then Install r.covered else beat_body shown next) there

  -- above it: what is shown
  pub beat_shows : (base : Base S) (shown x : Raft C) → IsCompacted base shown → (r : IsCompactionOf m base shown x) → (next : ℕ) → nat_le next base.index ≡ false → beat_body x next ≡ beat_body shown next
  beat_shows base shown x is r next high =
      let may = may_fill base shown is r.covered r.fits in
      let past : nat_le next shown.covered ≡ false = rw is.count high in
      ap (λ (z : Raft C). beat_body z next) r.is ∙ beat-with_prefix r.covered shown may (is.count ∙ sym r.fits.index) next ∙ ap (λ (b : Bool). if b then Install r.covered else beat_body shown next) past

  -- two servers, each of which covers something: what the one sends, the other takes
  pub two_servers : (n me from term next : ℕ) (theirs base : Base S) (sender x shown y : Raft C) → IsCompacted theirs sender → (r : IsCompactionOf m theirs sender x) → IsCompacted base shown → IsCompactionOf m base shown y → nat_le next theirs.index ≡ true →
      (Q : List (Entry C)) × (beat_body x next ≡ Install Q) × IsBaseOf m theirs Q × Received m (base_after base shown term theirs) (turn_of m n me shown from term theirs) (receives m.noop n me (term_observed term y) from term (Install Q))
  two_servers n me from term next theirs base sender x shown y sa r sb q low =
      (r.covered, beat_says theirs sender x sa r next low, r.fits, received n me from term theirs base shown y sb q r.covered r.fits)

  -- ---- a crash, a restart and a Compact

  pub crash_stands : (base : Base S) (shown s : Raft C) → IsCompacted base shown → IsCompactionOf m base shown s → IsCompactionOf m base (crashed shown) (crashed s) × IsCompacted base (crashed shown)
  crash_stands base shown s is r = (
    record { covered = r.covered; fits = r.fits; is = ap crashed r.is },
    record { covered = omega (arith, is.count); within = is.within; term = is.term; count = is.count },
  )

  pub restart_stands : (base : Base S) (shown s : Raft C) → IsCompacted base shown → IsCompactionOf m base shown s → IsCompactionOf m base (restarted shown) (restarted s) × IsCompacted base (restarted shown)
  restart_stands base shown s is r = (
    record { covered = r.covered; fits = r.fits; is = ap restarted r.is },
    record { covered = omega (arith, is.count); within = is.within; term = is.term; count = is.count },
  )

  compact_shows : (base : Base S) (shown : Raft C) → IsCompacted base shown → shown.commit ≤ length shown.log → IsCompacted (compacted_base m base shown) (compacted_further m shown)
  compact_shows base shown is within =
      let k = shown.commit in
      let term = term_at shown.log k in
      record {
        covered = omega arith;
        within = omega (arith, within, length-append (noop_prefix m k term) (drop k shown.log), noop_prefix-length m k term []);
        term = term_of k refl;
        count = refl;
      } where
        term_of : (k : ℕ) → shown.commit ≡ k → term_at shown.log k ≡ term_at (noop_prefix m k (term_at shown.log k) ++ drop k shown.log) k
        term_of zero at = term_at_zero shown.log ∙ sym (term_at_zero (drop zero shown.log))
        term_of (suc k) at = shown_covered m (suc k) (term_at shown.log (suc k)) (drop (suc k) shown.log) (suc k) (λ z. absurd (omega (arith, z))) (omega arith)

  pub compact_stands : (base : Base S) (shown s : Raft C) → IsCompacted base shown → shown.commit ≤ length shown.log → IsCompactionOf m base shown s → IsCompactionOf m (compacted_base m base shown) (compacted_further m shown) (compacted s) × IsCompacted (compacted_base m base shown) (compacted_further m shown)
  compact_stands base shown s is within r =
      let P = r.covered in
      let may = may_fill base shown is P r.fits in
      let k = shown.commit in
      let term = term_at shown.log k in
      let size : length (take k (log_with_prefix P shown.log)) ≡ k = length-take-le k (log_with_prefix P shown.log) (omega (arith, within, with_prefix-length P shown.log may.within may.term)) in (
        record {
          covered = take k (log_with_prefix P shown.log);
          fits = record {
            index = size;
            term = compacted-term P shown may within;
            state = ap (λ (x : Raft C). state_after m (take x.commit x.log)) (sym r.is) ∙ state_shown base shown s is r;
          };
          is = ap compacted r.is ∙ compacted-with_prefix P shown may within (noop_prefix m k term) (noop_prefix-length m k term []);
        },
        compact_shows base shown is within,
      )
