-- Moments of what came about step by step, whatever a step is: each first part of it came about so,
-- and from one moment to the next there is one step.
use Rattle.std.proofs.Common.{◌≡◌, ℕ, zero, suc, ◌≤◌, inl, inr, Some, List, [], ◌∷◌, ◌++◌, length, take, refl, sym, ap, ◌∙◌, subst, arith, slice_get, take_all}
use Rattle.std.proofs.lemmas.Option.{same_Some}
use Rattle.raft_safety.proofs.Places.{get-where, get-more, get-last, get-one, get-within, take_append, take_none, push_length}

-- what stands in a first part, with the item that follows it, stands in the list
pub front_get : {A : Type 0} (xs : List A) (y : A) (l : ℕ) (x : A) → slice_get (xs ++ y ∷ []) l ≡ Some x → (k : ℕ) (z : A) → slice_get (take l xs ++ x ∷ []) k ≡ Some z → slice_get (xs ++ y ∷ []) k ≡ Some z
front_get [] y zero x at k z h = ap (λ v. slice_get (v ∷ []) k) (get-one y zero x at) ∙ h
front_get [] y (suc l) x at k z h = absurd (let q = get-within (y ∷ []) (suc l) x at in omega (arith, q))
front_get (v ∷ xs) y zero x at zero z h = at ∙ h
front_get (v ∷ xs) y zero x at (suc k) z h = absurd (cc)
front_get (v ∷ xs) y (suc l) x at zero z h = h
front_get (v ∷ xs) y (suc l) x at (suc k) z h = front_get xs y l x at k z h

module _ {E W : Type 0} (first : W) (Goes : W → E → W → Type 0) where
  -- the events, what was before each of them, and what is
  pub data Came : List E → List W → W → Type 0 where
    begun : Came [] [] first
    gone : {events : List E} {past : List W} {w : W} (e : E) (next : W) → Came events past w → Goes w e next → Came (events ++ e ∷ []) (past ++ w ∷ []) next

  -- as many events as moments before the last one
  pub came_even : (events : List E) (past : List W) (w : W) → Came events past w → length events ≡ length past
  came_even events past w begun = refl
  came_even events past w (gone {events = es} {past = before} {w = last} e next r goes) = push_length es e ∙ (ap suc (came_even es before last r) ∙ sym (push_length before last))

  -- up to a moment
  pub came_front : (events : List E) (past : List W) (w : W) → Came events past w → (k : ℕ) (x : W) → slice_get (past ++ w ∷ []) k ≡ Some x → Came (take k events) (take k past) x
  came_front events past w begun k x at =
      subst (λ y. Came (take k []) (take k []) y) (get-one w k x at)
      (subst (λ es. Came es (take k []) w) (sym (take_none k)) (subst (λ ws. Came [] ws w) (sym (take_none k)) begun))
  came_front events past w (gone {events = es} {past = before} {w = last} e next r goes) k x at =
      let even = came_even es before last r in
      elim (get-where (before ++ last ∷ []) (next ∷ []) k x at) [
        | inl q ↦
            let short : k ≤ length before = omega (arith, q.0, push_length before last) in
            subst (λ fs. Came fs (take k (before ++ last ∷ [])) x) (take_append k es (e ∷ []) (omega (arith, short, even)))
            (subst (λ ws. Came (take k es) ws x) (take_append k before (last ∷ []) short)
            (came_front es before last r k x q.1))
        | inr q ↦
            let long : suc (length before) ≤ k = omega (arith, q.0, push_length before last) in
            subst (λ y. Came (take k (es ++ e ∷ [])) (take k (before ++ last ∷ [])) y) (get-one next q.1.0 x q.1.1)
            (subst (λ fs. Came fs (take k (before ++ last ∷ [])) next) (sym (take_all k (es ++ e ∷ []) (omega (arith, long, push_length es e, even))))
            (subst (λ ws. Came (es ++ e ∷ []) ws next) (sym (take_all k (before ++ last ∷ []) (omega (arith, q.0))))
            (gone e next r goes)))
      ]

  -- from one moment to the next
  pub came_step : (events : List E) (past : List W) (w : W) → Came events past w → (k : ℕ) (x y : W) → slice_get (past ++ w ∷ []) k ≡ Some x → slice_get (past ++ w ∷ []) (suc k) ≡ Some y →
      (e : E) × (slice_get events k ≡ Some e) × Goes x e y
  came_step events past w begun k x y at_k at = absurd (let q = get-within (w ∷ []) (suc k) y at in omega (arith, q))
  came_step events past w (gone {events = es} {past = before} {w = last} e next r goes) k x y at_k at =
      let even = came_even es before last r in
      let size = push_length before last in
      elim (get-where (before ++ last ∷ []) (next ∷ []) (suc k) y at) [
        | inl q ↦ elim (get-where (before ++ last ∷ []) (next ∷ []) k x at_k) [
          | inl p ↦ let s = came_step es before last r k x y p.1 q.1 in (s.0, get-more es (e ∷ []) k s.0 s.1, s.2)
          | inr p ↦ absurd (omega (arith, p.0, q.0))
        ]
        | inr q ↦
            let within = get-within ((before ++ last ∷ []) ++ next ∷ []) (suc k) y at in
            let now : k ≡ length before = omega (arith, q.0, within, size, push_length (before ++ last ∷ []) next) in
            let same_next : next ≡ y = get-one next q.1.0 y q.1.1 in
            let was : slice_get ((before ++ last ∷ []) ++ next ∷ []) (length before) ≡ Some last = get-more (before ++ last ∷ []) (next ∷ []) (length before) last (get-last before last) in
            let same_last : last ≡ x = same_Some last x (sym was ∙ (ap (slice_get ((before ++ last ∷ []) ++ next ∷ [])) (sym now) ∙ at_k)) in
            (e, ap (slice_get (es ++ e ∷ [])) (now ∙ sym even) ∙ get-last es e, subst (λ v. Goes v e y) same_last (subst (λ v. Goes last e v) same_next goes))
      ]
