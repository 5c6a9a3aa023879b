-- How much of a list the logs of a run had held by each moment, and how much was committed. The list's next entry
-- is there from the moment on at which a leader appended it.
use Rattle.std.proofs.Common.{◌≡◌, ℕ, zero, suc, ◌≤◌, ◌<◌, ◌⊎◌, inl, inr, Bool, true, false, ◌&&◌, nat_lt, nat_le, ◌==◌, if◌then◌else◌, Some, List, [], ◌∷◌, ◌++◌, take, length, refl, sym, ap, ◌∙◌, subst, arith, slice_get, length-take-le, take-take, true≢false}
use Rattle.std.proofs.lemmas.Bool.{and_parts, and_from, eqb-true, leb-true, lt-ltb, le-leb, eq-eqb}
use Rattle.std.proofs.lemmas.Bool.Decides.{leb_tells}
use Rattle.std.proofs.lemmas.Option.{same_Some}
use Rattle.machine_model.specs.declared.entry.Entry.{Entry}
use Rattle.raft_model.specs.Logs.{term_at, has}
use Rattle.raft_model.specs.Rafts.{Raft, greatest, is_up}
use Rattle.raft_model.specs.Worlds.{World, moment}
use Rattle.raft_model.specs.Chains.{Agree, At, Chain}
use Rattle.raft_model.proofs.Cases.{bool_cases}
use Rattle.raft_safety.specs.Claims.{LogMatching}
use Rattle.raft_safety.proofs.Logs.{agree_none, agree_sym, agree_trans, agree_less, agree_term}
use Rattle.raft_safety.proofs.LeaderSteps.{greatest_told}
use Rattle.raft_safety.proofs.Places.{take_get, take_below}
use Rattle.raft_safety.proofs.Risen.{greatest_last}
use Rattle.raft_safety.proofs.Most.{most, most_bound, most_reached}

module _ {C : Type 0} (past : List (World C)) (w : World C) (f : Raft C → ℕ) where
  -- the greatest number that a server had by moment k
  pub by_then : ℕ → ℕ
  by_then k = most (λ (x : World C). most f x.servers) (take (suc k) (past ++ w ∷ []))

  pub then_bound : (j k i : ℕ) (s : Raft C) → At past w j i s → j ≤ k → f s ≤ by_then k
  unfolding by_then
  then_bound j k i s a le =
      let one = most_bound f a.world.servers i s a.here in
      let two = most_bound (λ (x : World C). most f x.servers) (take (suc k) (past ++ w ∷ [])) j a.world (take_get (suc k) (past ++ w ∷ []) j (omega (arith, le)) ∙ a.world_is) in
      omega (arith, one, two)

  -- the server that had it
  pub record Had (k n : ℕ) : Type 0 where
    pub when : ℕ
    pub who : ℕ
    pub server : Raft C
    pub at : At past w when who server
    pub by : when ≤ k
    pub is : f server ≡ n

  pub then_reached : (k : ℕ) → (by_then k ≡ 0) ⊎ Had k (by_then k)
  unfolding by_then
  then_reached k = elim (most_reached (λ (x : World C). most f x.servers) (take (suc k) (past ++ w ∷ []))) [
    | inl e ↦ inl e
    | inr r ↦ elim (most_reached f r.1.servers) [
      | inl e ↦ inl (sym r.3 ∙ e)
      | inr q ↦ let b = take_below (suc k) (past ++ w ∷ []) r.0 r.1 r.2 in inr (record {
        when = r.0;
        who = q.0;
        server = q.1;
        at = record { world = r.1; world_is = b.1; here = q.2 };
        by = omega (arith, b.0);
        is = q.3 ∙ r.3;
      })
    ]
  ]

  pub then_rises : (k : ℕ) → by_then k ≤ by_then (suc k)
  then_rises k = elim (then_reached k) [
    | inl e ↦ omega (arith, e)
    | inr h ↦ omega (arith, h.is, then_bound h.when (suc k) h.who h.server h.at (omega (arith, h.by)))
  ]

module _ {C : Type 0} (past : List (World C)) (w : World C) (L : List (Entry C)) where
  -- how much of the list a log has
  pub reach : Raft C → ℕ
  reach s = greatest (λ p. has s.log p (term_at L p)) 0 (length L)

  pub reach_bound : (s : Raft C) (p : ℕ) → Agree p s.log L → p ≤ reach s
  unfolding reach
  reach_bound s p a = elim (leb_tells p (greatest (λ p. has s.log p (term_at L p)) 0 (length L))) [
    | inl e ↦ e.1
    | inr e ↦ absurd (greatest_last (λ p. has s.log p (term_at L p)) 0 (length L) p (omega (arith, e.1)) (omega (arith, e.1)) a.right
        (and_from (nat_le p (length s.log)) (term_at s.log p == term_at L p) (le-leb p (length s.log) a.left) (eq-eqb (term_at s.log p) (term_at L p) (agree_term p p s.log L a (omega (arith, e.1)) (omega arith)))))
  ]

  module _ (matching : LogMatching past w) (one : Chain past w L) where
    pub reach_agree : (k i : ℕ) (s : Raft C) → At past w k i s → Agree (reach s) s.log L
    unfolding reach
    reach_agree k i s a = elim (greatest_told (λ p. has s.log p (term_at L p)) 0 (length L)) [
      | inl e ↦ subst (λ g. Agree g s.log L) (sym e) (agree_none s.log L)
      | inr r ↦ elim one.longest [
        | inl e ↦ absurd (omega (arith, r.0, r.1, ap length e))
        | inr c ↦
            let g = greatest (λ p. has s.log p (term_at L p)) 0 (length L) in
            let parts = and_parts (nat_le g (length s.log)) (term_at s.log g == term_at L g) r.2 in
            let whole : Agree (length L) c.server.log L = subst (λ n. Agree n c.server.log L) c.commit (one.agrees c.moment c.who c.server c.at) in
            let part : Agree g c.server.log L = agree_less g r.1 whole in
            let same : term_at s.log g ≡ term_at c.server.log g = eqb-true (term_at s.log g) (term_at L g) parts.1 ∙ sym (agree_term g g c.server.log L part (omega (arith, r.0)) (omega arith)) in
            agree_trans (matching k c.moment i c.who g s c.server a c.at (omega (arith, r.0)) (leb-true g (length s.log) parts.0) part.left same) part
      ]
    ]

    -- how much of the list any log had held by moment k
    unfoldable pub far : ℕ → ℕ
    far k = by_then past w reach k

    pub far_bound : (j k i p : ℕ) (s : Raft C) → At past w j i s → j ≤ k → Agree p s.log L → p ≤ far k
    unfolding far
    far_bound j k i p s a le g = omega (arith, reach_bound s p g, then_bound past w reach j k i s a le)

    pub far_rises : (k : ℕ) → far k ≤ far (suc k)
    unfolding far
    far_rises k = then_rises past w reach k

    pub far_within : (k : ℕ) → far k ≤ length L
    unfolding far
    far_within k = elim (then_reached past w reach k) [
      | inl e ↦ omega (arith, e)
      | inr h ↦ let a = reach_agree h.when h.who h.server h.at in omega (arith, h.is, a.right)
    ]

    -- the log that has one more by the next moment than any had
    pub record Newest (k : ℕ) : Type 0 where
      pub who : ℕ
      pub server : Raft C
      pub at : At past w (suc k) who server
      pub more : far k < reach server
      pub most : reach server ≡ far (suc k)

    pub grew : (k : ℕ) → (far (suc k) ≡ far k) ⊎ Newest k
    unfolding far
    grew k = elim (leb_tells (far (suc k)) (far k)) [
      | inl a ↦ inl (omega (arith, a.1, then_rises past w reach k))
      | inr a ↦ elim (then_reached past w reach (suc k)) [
        | inl e ↦ absurd (omega (arith, e, a.1))
        | inr h ↦
            let now : h.when ≡ suc k = elim (leb_tells h.when k) [
              | inl b ↦ absurd (omega (arith, h.is, a.1, then_bound past w reach h.when k h.who h.server h.at b.1))
              | inr b ↦ omega (arith, b.1, h.by)
            ] in
            inr (record { who = h.who; server = h.server; at = subst (λ j. At past w j h.who h.server) now h.at; more = omega (arith, h.is, a.1); most = h.is })
      ]
    ]

    -- who gets that entry from just what precedes it does so now
    pub just_now : (k m i p : ℕ) (after : Raft C) → far k < suc p → suc p ≤ length L → m ≤ k → At past w (suc m) i after → after.log ≡ take (suc p) L → m ≡ k
    just_now k m i p after above fits le a log = elim (leb_tells (suc m) k) [
      | inl e ↦ absurd (omega (arith, above, far_bound (suc m) k i (suc p) after a e.1 (record { left = omega (arith, ap length log, length-take-le (suc p) L fits); right = fits; same = ap (take (suc p)) log ∙ take-take (suc p) (suc p) L (omega arith) })))
      | inr e ↦ omega (arith, e.1, le)
    ]

    pub had_all : (k i p : ℕ) (before : Raft C) → p ≤ length L → At past w k i before → before.log ≡ take p L → p ≤ far k
    had_all k i p before fits a log = far_bound k k i p before a (omega arith) (record { left = omega (arith, ap length log, length-take-le p L fits); right = fits; same = ap (take p) log ∙ take-take p p L (omega arith) })
