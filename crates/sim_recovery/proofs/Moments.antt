-- Groups after more and more events of a run.
use Rattle.std.proofs.Common.{◌≡◌, ◌∙◌, ◌+◌, ◌<◌, ◌++◌, ◌∷◌, ◌==◌, ◌%◌, ℕ, Bool, true, false, List, [], Option, ap, arith, cond, filter, get_or, length, map, refl, subst, sym, take}
use Rattle.std.specs.List.{AllZip, range_with_len}
use Rattle.std.proofs.lemmas.List.{map-append, take_more}
use Rattle.std.proofs.lemmas.List.FromFn.{map-range_with_len_more}
use Rattle.std.proofs.lemmas.List.Elements.{filter-append}
use Rattle.group_inputs.specs.declared.event.Event.{Event as GroupEvent}
use Rattle.group_inputs.specs.Events.{group_event, group_events}
use Rattle.group_model.specs.Worlds.{Event}
use Rattle.world.specs.GroupView.{GroupView}
use Rattle.sim_playback.specs.Taking.{Took}
use Rattle.sim_recovery.specs.Recoveries.{AllCame}

-- one event more
pub came_more : (events : List Event) (event : Event) (first mid new : GroupView) (answer : Option ℕ) → AllCame events first mid → Took mid event answer new
    → AllCame (events ++ event ∷ []) first new
came_more [] event first mid new answer came took = (answer, new, subst (λ g. Took g event answer new) came took, refl)
came_more (e ∷ events) event first mid new answer came took =
    (came.0, came.1, came.2, came_more events event came.1 mid new answer came.3 took)

-- of a list of the program's events
pub events_more : (events : List GroupEvent) (i : ℕ) (event : GroupEvent) → i < length events → event ≡ get_or events i event
    → group_events (take (i + 1) events) ≡ group_events (take i events) ++ group_event event ∷ []
events_more events i event inside at =
    ap group_events (take_more events i event inside ∙ ap (λ e. take i events ++ e ∷ []) (sym at)) ∙ map-append group_event (take i events) (event ∷ [])

-- ---- moments

-- the numbers below one more
range_more : (n : ℕ) → range_with_len 0 (n + 1) ≡ range_with_len 0 n ++ n ∷ []
range_more n = sym (map_same (range_with_len 0 (n + 1))) ∙ map-range_with_len_more (λ k. k) 0 n n (omega arith) ∙ ap (λ xs. xs ++ n ∷ []) (map_same (range_with_len 0 n))
  where
    map_same : (xs : List ℕ) → map (λ k. k) xs ≡ xs
    map_same [] = refl
    map_same (x ∷ xs) = ap (λ rest. x ∷ rest) (map_same xs)

pub with_multiple : (every n : ℕ) → (n % every == 0) ≡ true → filter (λ k. k % every == 0) (range_with_len 0 (n + 1)) ≡ filter (λ k. k % every == 0) (range_with_len 0 n) ++ n ∷ []
with_multiple every n is =
    ap (filter (λ k. k % every == 0)) (range_more n) ∙ filter-append (λ k. k % every == 0) (range_with_len 0 n) (n ∷ [])
    ∙ ap (λ (b : Bool). filter (λ k. k % every == 0) (range_with_len 0 n) ++ cond b (n ∷ []) []) is

pub without_multiple : (every n : ℕ) → (n % every == 0) ≡ false → filter (λ k. k % every == 0) (range_with_len 0 (n + 1)) ≡ filter (λ k. k % every == 0) (range_with_len 0 n)
without_multiple every n is =
    ap (filter (λ k. k % every == 0)) (range_more n) ∙ filter-append (λ k. k % every == 0) (range_with_len 0 n) (n ∷ [])
    ∙ ap (λ (b : Bool). filter (λ k. k % every == 0) (range_with_len 0 n) ++ cond b (n ∷ []) []) is
    ∙ append_none (filter (λ k. k % every == 0) (range_with_len 0 n))
  where
    append_none : (xs : List ℕ) → xs ++ [] ≡ xs
    append_none [] = refl
    append_none (x ∷ xs) = ap (λ rest. x ∷ rest) (append_none xs)

pub multiples_more : (every n : ℕ) (old new : List ℕ) → old ≡ filter (λ k. k % every == 0) (range_with_len 0 n)
    → ((n % every == 0) ≡ true → new ≡ old ++ n ∷ []) → ((n % every == 0) ≡ false → new ≡ old)
    → new ≡ filter (λ k. k % every == 0) (range_with_len 0 (n + 1))
multiples_more every n old new was multiple other = go (n % every == 0) refl
  where
    go : (b : Bool) → (n % every == 0) ≡ b → new ≡ filter (λ k. k % every == 0) (range_with_len 0 (n + 1))
    go true is = multiple is ∙ ap (λ xs. xs ++ n ∷ []) was ∙ sym (with_multiple every n is)
    go false is = other is ∙ was ∙ sym (without_multiple every n is)

-- ---- rows

-- there is one, where there is a moment
pub some_row : {N R : Type 0} (P : N → R → Type 0) (ns : List N) (last : N) (rows : List R) → AllZip P (ns ++ last ∷ []) rows → 0 < length rows
some_row P [] last [] are = absurd are
some_row P [] last (r ∷ rs) are = omega arith
some_row P (n ∷ ns) last [] are = absurd are
some_row P (n ∷ ns) last (r ∷ rs) are = omega arith
