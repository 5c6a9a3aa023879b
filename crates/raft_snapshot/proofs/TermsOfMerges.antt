-- Terms tell what of a log stays where a leader's entries are taken over.
use Rattle.std.proofs.Common.{ℕ, suc, ◌≤◌, ◌≡◌, ◌≢◌, List, [], ◌∷◌, ◌++◌, length, take, refl, sym, ◌∙◌, arith, inl, inr, take-take, subst, length-take-le, cond, Bool, true, false, ◌&&◌, ◌||◌, leb, eqb}
use Rattle.std.proofs.lemmas.Bool.{leb-true, leb-false, eqb-false}
use Rattle.std.proofs.lemmas.Bool.Decides.{leb_tells}
use Rattle.std.proofs.lemmas.List.{take-append-le}
use Rattle.machine_model.specs.declared.entry.Entry.{Entry}
use Rattle.raft_model.specs.Logs.{term_at, merge}
use Rattle.raft_snapshot.specs.Changes.{TermsTell}

module _ {C : Type 0} where
  pub tells_same : (c : ℕ) (log : List (Entry C)) → TermsTell c log log
  tells_same c log k reaches a b terms = refl

  pub tells_more : (c : ℕ) (log more : List (Entry C)) → TermsTell c log (log ++ more)
  tells_more c log more k reaches a b terms = sym (take-append-le k log more a)

  term_behind : (front : List (Entry C)) (e : Entry C) (es : List (Entry C)) → term_at (front ++ e ∷ es) (suc (length front)) ≡ e.term
  unfolding term_at
  term_behind [] e es = refl
  term_behind (x ∷ front) e es = term_behind front e es

  -- a log that is cut at an entry of another term
  pub tells_cut : (c p : ℕ) (log : List (Entry C)) (e : Entry C) (es : List (Entry C)) → c ≤ p → p ≤ length log → (suc p ≤ length log → term_at log (suc p) ≢ e.term) → TermsTell c log (take p log ++ e ∷ es)
  tells_cut c p log e es behind le differs k reaches a b terms = elim (leb_tells k p) [
    | inl t ↦
        let long : k ≤ length (take p log) = omega (arith, t.1, length-take-le p log le) in
        sym (take-append-le k (take p log) (e ∷ es) long ∙ take-take k p log t.1)
    | inr t ↦
        let at : term_at (take p log ++ e ∷ es) (suc p) ≡ e.term = subst (λ n. term_at (take p log ++ e ∷ es) (suc n) ≡ e.term) (length-take-le p log le) (term_behind (take p log) e es) in
        absurd (differs (omega (arith, t.1, a)) (terms (suc p) (omega (arith, behind)) (omega (arith, t.1)) ∙ at))
  ]

  merge_case : (c p : ℕ) (log : List (Entry C)) (e : Entry C) (es : List (Entry C)) (x y z : Bool) → leb (suc p) c ≡ x → leb (suc p) (length log) ≡ y → eqb (term_at log (suc p)) e.term ≡ z → c ≤ length log → p ≤ length log
      → (suc p ≤ length log → TermsTell c log (merge c (suc p) log es))
      → TermsTell c log (cond (x || (y && z)) (merge c (suc p) log es) (take p log ++ e ∷ es))
  merge_case c p log e es true y z hx hy hz lc lp more = more (omega (arith, leb-true (suc p) c hx, lc))
  merge_case c p log e es false true true hx hy hz lc lp more = more (leb-true (suc p) (length log) hy)
  merge_case c p log e es false true false hx hy hz lc lp more = tells_cut c p log e es (omega (arith, leb-false (suc p) c hx)) lp (λ le same. eqb-false (term_at log (suc p)) e.term hz same)
  merge_case c p log e es false false z hx hy hz lc lp more = tells_cut c p log e es (omega (arith, leb-false (suc p) c hx)) lp (λ le same. omega (arith, le, leb-false (suc p) (length log) hy))

  pub tells_merge : (c p : ℕ) (log es : List (Entry C)) → c ≤ length log → p ≤ length log → TermsTell c log (merge c p log es)
  unfolding merge
  tells_merge c p log [] lc lp = tells_same c log
  tells_merge c p log (e ∷ es) lc lp =
      merge_case c p log e es (leb (suc p) c) (leb (suc p) (length log)) (eqb (term_at log (suc p)) e.term) refl refl refl lc lp
      (λ next. tells_merge c (suc p) log es lc next)
