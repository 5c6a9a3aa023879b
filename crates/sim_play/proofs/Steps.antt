-- One more step of a scenario.
use Rattle.std.proofs.Common.{◌≡◌, ◌∙◌, ◌+◌, ◌<◌, ◌++◌, ◌∷◌, ℕ, List, [], String, ap, append_assoc, get_or, length, map, refl, string_bytes, subst, sym, take}
use Rattle.std.specs.declared.alloc.Global.{Global}
use Rattle.std.proofs.lemmas.List.{append-nil, map-append, take_more}
use Rattle.rows.specs.declared.refusal.Refusal.{Refusal}
use Rattle.sim_scenario.specs.Steps.{Step}
use Rattle.sim_play.specs.Played.{LinePlayed, LinesPlayed, Refused}

pub one_more_line : (steps : List (String Global)) (i : ℕ) (line : String Global) → i < length steps → line ≡ get_or steps i line
    → map string_bytes (take (i + 1) steps) ≡ map string_bytes (take i steps) ++ string_bytes line ∷ []
one_more_line steps i line inside at =
    let taken : take (i + 1) steps ≡ take i steps ++ line ∷ [] = take_more steps i line inside ∙ ap (λ x. take i steps ++ x ∷ []) (sym at) in
    rw taken (map-append string_bytes (take i steps) (line ∷ []))

module _ {S : Type 0} (Takes : Step → S → S → Type 0) (Refuses : Step → S → Refusal → S → Type 0) where
  pub one_more_played : (lines : List (List ℕ)) (line : List ℕ) (old mid new : S) (refused own : List Refused)
      → LinesPlayed Takes Refuses lines old refused mid → LinePlayed Takes Refuses line mid own new → LinesPlayed Takes Refuses (lines ++ line ∷ []) old (refused ++ own) new
  one_more_played [] line old mid new refused own played is =
      (own, [], new, ap (λ xs. xs ++ own) played.0 ∙ sym (append-nil own), subst (λ s. LinePlayed Takes Refuses line s own new) played.1 is, (refl, refl))
  one_more_played (first ∷ lines) line old mid new refused own played is =
      (played.0, played.1 ++ own, played.2, ap (λ xs. xs ++ own) played.3 ∙ append_assoc played.0 played.1 own, played.4, one_more_played lines line played.2 mid new played.1 own played.5 is)
