-- How far a run has committed, from one world to the next.
use Rattle.std.proofs.Common.{◌≡◌, ℕ, ◌<◌, ◌≤◌, ◌⊎◌, inl, inr, max, true, Some, List, [], ◌∷◌, ◌++◌, replicate, refl, sym, ap, ◌∙◌, subst, arith, slice_get, slice_set}
use Rattle.raft_model.specs.Rafts.{Raft, is_up, newcomer}
use Rattle.raft_model.specs.Worlds.{World, first, moment}
use Rattle.raft_model.specs.Chains.{At, WasCommitted}
use Rattle.raft_model.proofs.Cases.{bool_cases}
use Rattle.raft_safety.proofs.Places.{get_set-cases, get_set-same, get-more, get-later, get-split, get-one, get-within, replicate-get}
use Rattle.raft_safety.specs.Claims.{IsGreatestCommit}
use Rattle.world.specs.Inner.Inputs.{committed}

up_committed : {C : Type 0} (s : Raft C) → is_up s.mode ≡ true → committed s ≡ s.commit
up_committed s up = rw up refl

pub first_height : {C : Type 0} (n : ℕ) → IsGreatestCommit {C = C} [] (first n) 0
first_height {C} n = record {
  bound = λ k i s at up.
      let w : first n ≡ at.world = get-one (first n) k at.world at.world_is in
      let here : slice_get (replicate n newcomer) i ≡ Some s = subst (λ (x : World C). slice_get x.servers i ≡ Some s) (sym w) at.here in
      let is : newcomer ≡ s = replicate-get n newcomer i s here in
      subst (λ (x : Raft C). x.commit ≤ 0) is (omega arith);
  reached = inl refl;
}

module _ {C : Type 0} (past : List (World C)) (w next : World C) (i : ℕ) (t : Raft C) (height : ℕ) where
  last_moment : (j : ℕ) × (moment (past ++ w ∷ []) next j ≡ Some next)
  last_moment = get-later (past ++ w ∷ []) (next ∷ []) 0 next refl

  reached_on : (index : ℕ) → WasCommitted past w index → WasCommitted (past ++ w ∷ []) next index
  reached_on index r = record {
    moment = r.moment;
    who = r.who;
    server = r.server;
    at = record { world = r.at.world; world_is = get-more (past ++ w ∷ []) (next ∷ []) r.moment r.at.world r.at.world_is; here = r.at.here };
    up = r.up;
    commit = r.commit;
  }

  -- a server of the next world is the one that took the event, or was there before
  now_or_then : (j : ℕ) (s : Raft C) → slice_get (slice_set w.servers i t) j ≡ Some s → (t ≡ s) ⊎ (slice_get w.servers j ≡ Some s)
  now_or_then j s h = elim (get_set-cases w.servers i t j s h) [ inl e ↦ inl e.1 | inr e ↦ inr e.1 ]

  at_next : (k j : ℕ) (s : Raft C) → At (past ++ w ∷ []) next k j s → next.servers ≡ slice_set w.servers i t → (t ≡ s) ⊎ ((l : ℕ) × At past w l j s)
  at_next k j s at is = elim (get-split (past ++ w ∷ []) (next ∷ []) k at.world at.world_is) [
    | inl e ↦ inr (k, record { world = at.world; world_is = e; here = at.here })
    | inr e ↦
        let same : next ≡ at.world = get-one next e.0 at.world e.1 in
        let here : slice_get (slice_set w.servers i t) j ≡ Some s = subst (λ l. slice_get l j ≡ Some s) is (subst (λ (x : World C). slice_get x.servers j ≡ Some s) (sym same) at.here) in
        elim (now_or_then j s here) [
          | inl f ↦ inl f
          | inr f ↦ let l = get-later past (w ∷ []) 0 w refl in inr (l.0, record { world = w; world_is = l.1; here = f })
        ]
  ]

  reached_now : slice_get next.servers i ≡ Some t → (committed t ≡ 0) ⊎ WasCommitted (past ++ w ∷ []) next (committed t)
  reached_now here = elim (bool_cases (is_up t.mode)) [
    | inl up ↦ let l = last_moment in
        inr (record { moment = l.0; who = i; server = t; at = record { world = next; world_is = l.1; here = here }; up = up; commit = sym (up_committed t up) })
    | inr down ↦ inl (rw down refl)
  ]

  greater : (a b : ℕ) → ((b ≤ a) × (max a b ≡ a)) ⊎ ((a < b) × (max a b ≡ b))
  greater a b = grind arith

  reached_next : (height ≡ 0) ⊎ WasCommitted past w height → slice_get next.servers i ≡ Some t →
      (max height (committed t) ≡ 0) ⊎ WasCommitted (past ++ w ∷ []) next (max height (committed t))
  reached_next h here = elim (greater height (committed t)) [
    | inl e ↦ elim h [
      | inl f ↦ inl (e.1 ∙ f)
      | inr f ↦ inr (subst (λ c. WasCommitted (past ++ w ∷ []) next c) (sym e.1) (reached_on height f))
    ]
    | inr e ↦ elim (reached_now here) [
      | inl f ↦ absurd (omega (arith, e.0))
      | inr f ↦ inr (subst (λ c. WasCommitted (past ++ w ∷ []) next c) (sym e.1) f)
    ]
  ]

  pub height_next : (s : Raft C) → IsGreatestCommit past w height → slice_get w.servers i ≡ Some s → next.servers ≡ slice_set w.servers i t → IsGreatestCommit (past ++ w ∷ []) next (max height (committed t))
  height_next s h old is = record {
    bound = λ k j x at up. elim (at_next k j x at is) [
      | inl e ↦ let here : committed x ≡ x.commit = up_committed x up in let c : committed t ≡ committed x = ap (λ (y : Raft C). committed y) e in omega arith
      | inr e ↦ let b : x.commit ≤ height = h.bound e.0 j x e.1 up in omega arith
    ];
    reached = reached_next h.reached (ap (λ l. slice_get l i) is ∙ get_set-same w.servers i t (get-within w.servers i s old));
  }
