-- Each whole list that a log may be, and what the log shows.
use Rattle.std.proofs.Common.{◌≡◌, ℕ, ◌+◌, ◌-◌, ◌≤◌, true, false, List, [], ◌++◌, length, take, drop, refl, sym, ap, subst, ◌∙◌, arith, length-take-le}
use Rattle.std.proofs.Math.Seq.{drop-append_seam}
use Rattle.std.proofs.lemmas.List.{take-append-drop, drop_all}
use Rattle.machine_model.specs.MachineSpec.{MachineSpec}
use Rattle.machine_model.specs.declared.entry.Entry.{Entry}
use Rattle.raft_model.specs.Logs.{term_at, last_term, has, install, commands, state_after}
use Rattle.raft_snapshot.specs.Bases.{Base, IsBaseOf, IsSnapshot, noop_prefix}
use Rattle.raft_snapshot.specs.Prefixes.{log_with_prefix}
use Rattle.raft_snapshot.specs.Kept.{Kept, kept, IsLogOf}
use Rattle.raft_snapshot.proofs.Logs.{term_at_zero, with_prefix-length, with_prefix-term, with_prefix-drop, with_prefix-take, with_prefix-install, front_term, later}
use Rattle.raft_snapshot.proofs.Blanks.{noop_prefix-length, last_is, shown_last, shown_size, shown_gone, install_kept, install_cut}

-- a log of no entries is the empty list
pub empty_whole : {S C : Type 0} (m : MachineSpec S C) (base : Base S) (tail : List (Entry C)) → base ≡ record { index = 0; term = 0; state = m.empty } → tail ≡ [] → IsLogOf m (kept m base tail) []
unfolding commands
empty_whole {S = S} {C = C} m base tail at none =
    let first : IsLogOf m (kept m (record { index = 0; term = 0; state = m.empty }) []) [] = record {
      covered = [];
      fits = record { index = refl; term = term_at_zero []; state = refl };
      is = refl;
    } in
    subst (λ (l : List (Entry C)). IsLogOf m (kept m base l) []) (sym none)
    (subst (λ (b : Base S). IsLogOf m (kept m b []) []) (sym at) first)

-- what is taken off the front, up to an index
pub to_index : {S C : Type 0} (m : MachineSpec S C) (base : Base S) (tail : List (Entry C)) (log : Kept S C) → kept m base tail ≡ log → (p a b : ℕ) → b ≡ base.index → a ≡ p → log.base.index ≤ p → log.base.index + (a - b) ≡ p
to_index {S = S} {C = C} m base tail log shows p a b at to le =
    let same_index : base.index ≡ log.base.index = ap (λ (k : Kept S C). k.base.index) shows in
    omega (arith, at, to, le, same_index)

-- what is behind a snapshot's index stays, or nothing does
module _ {S C : Type 0} (m : MachineSpec S C) (log new : Kept S C) (snapshot : Base S) (n : ℕ) (is : new ≡ kept m snapshot (drop n log.entries)) (none : snapshot.index ≡ 0 → snapshot.term ≡ 0) where
  pub installed_kept : n ≡ snapshot.index → has log.entries snapshot.index snapshot.term ≡ true → new.entries ≡ install log.entries (noop_prefix m snapshot.index snapshot.term)
  installed_kept at there =
      ap (λ (k : Kept S C). k.entries) is
      ∙ ap (λ (i : ℕ). noop_prefix m snapshot.index snapshot.term ++ drop i log.entries) at
      ∙ install_kept m log.entries snapshot.index snapshot.term none there

  pub installed_cut : drop n log.entries ≡ [] → has log.entries snapshot.index snapshot.term ≡ false → new.entries ≡ install log.entries (noop_prefix m snapshot.index snapshot.term)
  installed_cut left there =
      ap (λ (k : Kept S C). k.entries) is
      ∙ ap (λ (l : List (Entry C)). noop_prefix m snapshot.index snapshot.term ++ l) left
      ∙ install_cut m log.entries snapshot.index snapshot.term none there

-- nothing is left behind all that the log has
pub none_left : {S C : Type 0} (m : MachineSpec S C) (base : Base S) (tail : List (Entry C)) (log : Kept S C) → kept m base tail ≡ log → (n : ℕ) → n ≡ length tail → drop (log.base.index + n) log.entries ≡ []
none_left {S = S} {C = C} m base tail log shows n all =
    sym (ap (λ (k : Kept S C). drop (k.base.index + n) k.entries) shows)
    ∙ sym (shown_gone m base.index base.term tail n)
    ∙ drop_all n tail (omega (arith, all))

module _ {S C : Type 0} (m : MachineSpec S C) (base : Base S) (tail : List (Entry C)) (log : Kept S C) (shows : kept m base tail ≡ log) (counted : IsSnapshot m base) where
  base_is : base ≡ log.base
  base_is = ap (λ (k : Kept S C). k.base) shows

  entries_are : noop_prefix m base.index base.term ++ tail ≡ log.entries
  entries_are = ap (λ (k : Kept S C). k.entries) shows

  pub base_within : log.base.index ≤ length log.entries
  base_within = omega (arith, ap (λ (b : Base S). b.index) base_is, ap length entries_are, shown_size m base.index base.term tail)

  pub base_term : log.base.term ≡ term_at log.entries log.base.index
  base_term =
      sym (ap (λ (b : Base S). b.term) base_is)
      ∙ shown_last m base.index base.term tail counted.none
      ∙ ap (λ (k : Kept S C). term_at k.entries k.base.index) shows

  module _ (list : List (Entry C)) (is : IsLogOf m log list) where
    abbrev covered : List (Entry C)
    covered = is.covered

    room : length covered ≤ length log.entries
    room = omega (arith, is.fits.index, base_within)

    same : last_term covered ≡ term_at log.entries (length covered)
    same = is.fits.term ∙ base_term ∙ ap (term_at log.entries) (sym is.fits.index)

    past : (p : ℕ) → log.base.index ≤ p → length covered ≤ p
    past p le = omega (arith, is.fits.index, le)

    pub whole_length : length log.entries ≡ length list
    whole_length = sym (ap length is.is ∙ with_prefix-length covered log.entries room same)

    pub whole_term : (p : ℕ) → log.base.index ≤ p → term_at log.entries p ≡ term_at list p
    whole_term p le = sym (ap (λ (l : List (Entry C)). term_at l p) is.is ∙ with_prefix-term covered log.entries room same p (past p le))

    pub whole_drop : (p : ℕ) → log.base.index ≤ p → drop p log.entries ≡ drop p list
    whole_drop p le = sym (ap (λ (l : List (Entry C)). drop p l) is.is ∙ with_prefix-drop covered log.entries room same p (past p le))

    module _ (new : Kept S C) (same_base : new.base ≡ log.base) where
      fits : IsBaseOf m new.base covered
      fits = subst (λ (b : Base S). IsBaseOf m b covered) (sym same_base) is.fits

      pub whole_cut : (p : ℕ) → log.base.index ≤ p → new.entries ≡ take p log.entries → IsLogOf m new (take p list)
      whole_cut p le cut = record {
        covered = covered;
        fits = fits;
        is = ap (λ (l : List (Entry C)). take p l) is.is ∙ with_prefix-take covered log.entries room same p (past p le) ∙ ap (log_with_prefix covered) (sym cut);
      }

      pub whole_replaced : (p : ℕ) (more : List (Entry C)) → log.base.index ≤ p → p ≤ length log.entries → new.entries ≡ take p log.entries ++ more → IsLogOf m new (take p list ++ more)
      whole_replaced p more le within cut = record {
        covered = covered;
        fits = fits;
        is =
            ap (λ (l : List (Entry C)). take p l ++ more) is.is
            ∙ ap (λ (l : List (Entry C)). l ++ more) (with_prefix-take covered log.entries room same p (past p le))
            ∙ later covered (take p log.entries) more (omega (arith, past p le, length-take-le p log.entries within))
            ∙ ap (log_with_prefix covered) (sym cut);
      }

    -- what is covered by a later base of the same list
    pub whole_later : (new : Kept S C) (k : ℕ) (state : S) → log.base.index ≤ k → k ≤ length log.entries → new ≡ kept m (record { index = k; term = term_at log.entries k; state = state }) (drop k log.entries) → state_after m (take k list) ≡ state → IsLogOf m new list
    whole_later new k state le within same_new leads =
        let at : new.base ≡ record { index = k; term = term_at log.entries k; state = state } = ap (λ (l : Kept S C). l.base) same_new in
        let shown : new.entries ≡ noop_prefix m k (term_at log.entries k) ++ drop k log.entries = ap (λ (l : Kept S C). l.entries) same_new in
        let size : length (take k list) ≡ k = length-take-le k list (omega (arith, whole_length, within)) in
        let term : last_term (take k list) ≡ term_at log.entries k = ap (term_at (take k list)) size ∙ front_term list k k (omega (arith, whole_length, within)) (omega arith) ∙ sym (whole_term k le) in
        let base2 : Base S = record { index = k; term = term_at log.entries k; state = state } in
        let fits2 : IsBaseOf m base2 (take k list) = record { index = size; term = term; state = leads } in
        record {
          covered = take k list;
          fits = subst (λ (b : Base S). IsBaseOf m b (take k list)) (sym at) fits2;
          is =
              sym (take-append-drop k list)
              ∙ ap (λ (l : List (Entry C)). take k list ++ l) (sym (whole_drop k le) ∙ sym (drop-append_seam (noop_prefix m k (term_at log.entries k)) (drop k log.entries)) ∙ ap (λ (i : ℕ). drop i (noop_prefix m k (term_at log.entries k) ++ drop k log.entries)) (noop_prefix-length m k (term_at log.entries k) [] ∙ sym size))
              ∙ ap (log_with_prefix (take k list)) (sym shown);
        }

    -- a snapshot in place of what it covers
    pub whole_installed : (new : Kept S C) (snapshot : Base S) → log.base.index ≤ snapshot.index → (snapshot.index ≡ 0 → snapshot.term ≡ 0) → (rest : List (Entry C)) → new ≡ kept m snapshot rest → new.entries ≡ install log.entries (noop_prefix m snapshot.index snapshot.term) → (Q : List (Entry C)) → IsBaseOf m snapshot Q → IsLogOf m new (install list Q)
    whole_installed new snapshot le none rest same_new shown Q q = record {
      covered = Q;
      fits = subst (λ (b : Base S). IsBaseOf m b Q) (sym (ap (λ (k : Kept S C). k.base) same_new)) q;
      is =
          ap (λ (l : List (Entry C)). install l Q) is.is
          ∙ with_prefix-install covered log.entries room same Q (noop_prefix m snapshot.index snapshot.term) (noop_prefix-length m snapshot.index snapshot.term [] ∙ sym q.index) (last_is m snapshot.index snapshot.term none ∙ sym q.term) (omega (arith, q.index, past snapshot.index le))
          ∙ ap (log_with_prefix Q) (sym shown);
    }
