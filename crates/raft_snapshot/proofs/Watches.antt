-- What a watcher makes of entries, and of one more.
use Rattle.std.proofs.Common.{◌≡◌, ℕ, ◌+◌, ◌-◌, ◌<◌, ◌≤◌, List, [], ◌∷◌, ◌++◌, length, take, drop, get_or, refl, sym, ap, ◌∙◌, arith}
use Rattle.std.proofs.lemmas.List.{take_more, drop-take}
use Rattle.machine_model.specs.MachineSpec.{MachineSpec}
use Rattle.machine_model.specs.After.{after_from}
use Rattle.machine_model.specs.declared.entry.Entry.{Entry}
use Rattle.raft_model.specs.Logs.{commands}
use Rattle.raft_snapshot.specs.Watching.{SeesAll}

module _ {S C W : Type 0} (m : MachineSpec S C) (Sees : W → ℕ → Entry C → S → W → Type 0) (term : ℕ) where
  -- nothing is seen yet
  pub seen-none : (s : S) (es : List (Entry C)) (w : W) → SeesAll m Sees term s (take 0 es) w w
  seen-none s es w = refl

  seen-one : (s : S) (xs : List (Entry C)) (e : Entry C) (w mid new : W) → SeesAll m Sees term s xs w mid → Sees mid term e (m.applied (after_from m s (commands xs)) e.command) new → SeesAll m Sees term s (xs ++ e ∷ []) w new
  unfolding commands
  seen-one s [] e w mid new before is = (new, rw before at is, refl)
  seen-one s (x ∷ xs) e w mid new before is = (before.0, before.1, seen-one (m.applied s x.command) xs e before.0 mid new before.2 is)

  -- one more entry is seen
  pub seen-next : (s₀ : S) (es : List (Entry C)) (i : ℕ) (e : Entry C) (s t : S) (w₀ w v : W) → i < length es → e ≡ get_or es i e → s ≡ after_from m s₀ (commands (take i es)) → t ≡ m.applied s e.command → SeesAll m Sees term s₀ (take i es) w₀ w → Sees w term e t v → SeesAll m Sees term s₀ (take (i + 1) es) w₀ v
  seen-next s₀ es i e s t w₀ w v within read old step before is =
      let whole : take (i + 1) es ≡ take i es ++ e ∷ [] = take_more es i e within ∙ ap (λ x. take i es ++ x ∷ []) (sym read) in
      let state : t ≡ m.applied (after_from m s₀ (commands (take i es))) e.command = step ∙ ap (λ x. m.applied x e.command) old in
      rw whole (seen-one s₀ (take i es) e w₀ w v before (rw state at is))

  -- the entries from one place to another are seen from the state before them on
  pub seen_range : (es : List (Entry C)) (from to : ℕ) (s first : S) (w v : W) → from ≤ to → s ≡ first → SeesAll m Sees term s (take (to - from) (drop from es)) w v → SeesAll m Sees term first (drop from (take to es)) w v
  seen_range es from to s first w v order same is =
      let range : drop from (take to es) ≡ take (to - from) (drop from es) = ap (λ (n : ℕ). drop from (take n es)) (omega arith) ∙ drop-take from (to - from) es in
      rw (range, ← same) is

  -- where nothing is newly applied there is nothing to see
  pub nothing_seen : (s : S) (n : ℕ) (log : List (Entry C)) (w : W) → SeesAll m Sees term s (drop n (take n log)) w w
  nothing_seen s n log w =
      let none : drop n (take n log) ≡ [] = ap (λ (k : ℕ). drop n (take k log)) (omega arith) ∙ drop-take n 0 log in
      rw none refl
