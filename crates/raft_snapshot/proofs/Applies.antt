-- The state after a part of a log, and after one more.
use Rattle.std.proofs.Common.{◌≡◌, ℕ, suc, ◌+◌, ◌-◌, ◌<◌, ◌≤◌, List, [], ◌∷◌, ◌++◌, length, take, drop, get_or, refl, sym, ap, ◌∙◌, arith, length-take-le, length-drop, Result, Ok, Err, OnOk}
use Rattle.std.proofs.Math.Seq.{take-add}
use Rattle.std.proofs.lemmas.List.{take_more, drop-append-le}
use Rattle.machine_model.specs.MachineSpec.{MachineSpec, LawfulMachine}
use Rattle.machine_model.specs.After.{after_from}
use Rattle.machine_model.proofs.Afters.{after_from-append, after_from-count}
use Rattle.machine_model.specs.declared.entry.Entry.{Entry}
use Rattle.raft_model.specs.Logs.{commands}
use Rattle.raft_snapshot.specs.Bases.{Base, state_from}

pub commands-append : {C : Type 0} (xs ys : List (Entry C)) → commands (xs ++ ys) ≡ commands xs ++ commands ys
unfolding commands
commands-append [] ys = refl
commands-append {C = C} (x ∷ xs) ys = ap (λ (cs : List C). x.command ∷ cs) (commands-append xs ys)

pub commands-length : {C : Type 0} (xs : List (Entry C)) → length (commands xs) ≡ length xs
unfolding commands
commands-length [] = refl
commands-length (x ∷ xs) = ap suc (commands-length xs)

commands-one : {C : Type 0} (e : Entry C) → commands (e ∷ []) ≡ e.command ∷ []
unfolding commands
commands-one e = refl

commands-more : {C : Type 0} (es : List (Entry C)) (i : ℕ) (e : Entry C) → i < length es → e ≡ get_or es i e → commands (take (i + 1) es) ≡ commands (take i es) ++ e.command ∷ []
commands-more es i e within read =
    ap commands (take_more es i e within ∙ ap (λ x. take i es ++ x ∷ []) (sym read)) ∙ commands-append (take i es) (e ∷ []) ∙ ap (λ x. commands (take i es) ++ x) (commands-one e)

module _ {S C : Type 0} (m : MachineSpec S C) where
  -- nothing is applied yet
  pub from-none : (s : S) (es : List (Entry C)) → s ≡ after_from m s (commands (take 0 es))
  unfolding commands
  from-none s es = refl

  -- one more entry is applied
  pub from-next : (s₀ : S) (es : List (Entry C)) (i : ℕ) (e : Entry C) (s t : S) → i < length es → e ≡ get_or es i e → s ≡ after_from m s₀ (commands (take i es)) → t ≡ m.applied s e.command → t ≡ after_from m s₀ (commands (take (i + 1) es))
  from-next s₀ es i e s t within read old step =
      step ∙ ap (λ x. m.applied x e.command) old ∙ sym (ap (after_from m s₀) (commands-more es i e within read) ∙ after_from-append m s₀ (commands (take i es)) (e.command ∷ []))

  -- what follows some entries, of which a base covers the first, goes on from the state after them
  pub state_from-append : (base : Base S) (xs ys : List (Entry C)) → base.index ≤ length xs → state_from m base (xs ++ ys) ≡ after_from m (state_from m base xs) (commands ys)
  state_from-append base xs ys within =
      ap (λ (l : List (Entry C)). after_from m base.state (commands l)) (drop-append-le base.index xs ys within)
      ∙ ap (after_from m base.state) (commands-append (drop base.index xs) ys)
      ∙ after_from-append m base.state (commands (drop base.index xs)) (commands ys)

  -- the entries from one place to another bring the one state to the other
  pub after_range : (base : Base S) (es : List (Entry C)) (from to : ℕ) (s t : S) → base.index ≤ from → from ≤ to → to ≤ length es → s ≡ state_from m base (take from es) → t ≡ after_from m s (commands (take (to - from) (drop from es))) → t ≡ state_from m base (take to es)
  after_range base es from to s t covered order within old step =
      let k = to - from in
      let whole : take to es ≡ take from es ++ take k (drop from es) = ap (λ (n : ℕ). take n es) (omega arith) ∙ take-add from k es in
      let past : base.index ≤ length (take from es) = omega (arith, length-take-le from es (omega arith)) in
      step ∙ ap (λ x. after_from m x (commands (take k (drop from es)))) old
      ∙ sym (ap (state_from m base) whole ∙ state_from-append base (take from es) (take k (drop from es)) past)

module _ {S C : Type 0} (m : MachineSpec S C) (law : LawfulMachine m) where
  -- each entry that was applied adds one to the count
  pub from-count : (s₀ : S) (es : List (Entry C)) (i : ℕ) (s : S) → i ≤ length es → s ≡ after_from m s₀ (commands (take i es)) → m.count s ≡ m.count s₀ + i
  from-count s₀ es i s within old =
      ap m.count old ∙ after_from-count m law s₀ (commands (take i es)) ∙ omega (arith, length-take-le i es within, commands-length (take i es))

  -- the count is the number of entries, those that the base covers among them
  pub count_of : (base : Base S) (es : List (Entry C)) (n : ℕ) (s : S) → m.count base.state ≡ base.index → base.index ≤ n → n ≤ length es → s ≡ state_from m base (take n es) → m.count s ≡ n
  count_of base es n s counted covered within old =
      let rest = drop base.index (take n es) in
      ap m.count old ∙ after_from-count m law base.state (commands rest)
      ∙ omega (arith, counted, commands-length rest, length-drop base.index (take n es), length-take-le n es within)

pub on_ok : {T E P Q : Type 0} (r : Result T E) → (P → Q) → OnOk r P → OnOk r Q
on_ok (Ok x) f h = f h
on_ok (Err e) f h = h
