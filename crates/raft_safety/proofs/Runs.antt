-- Moments of a run: each first part of it is a run, and between two neighbouring moments lies one
-- event.
use Rattle.std.proofs.Common.{◌≡◌, ℕ, suc, ◌≤◌, Some, Ok, List, ◌∷◌, [], ◌++◌, length, take, arith}
use Rattle.machine_model.specs.MachineSpec.{MachineSpec}
use Rattle.raft_model.specs.Worlds.{World, Event, IsEvent, happens, first, Run, start, more, moment}
use Rattle.raft_safety.specs.Claims.{Happened}
use Rattle.raft_safety.proofs.Moments.{Came, begun, gone, came_even, came_front, came_step}
use Rattle.raft_safety.proofs.Places.{get-some, get-within}

module _ {S C : Type 0} (m : MachineSpec S C) (n : ℕ) where
  abbrev Goes : World C → Event C → World C → Type 0
  Goes w e next = IsEvent m e × (happens m w e ≡ Ok next)

  came : (events : List (Event C)) (past : List (World C)) (w : World C) → Run m n events past w → Came (first n) Goes events past w
  came events past w start = begun
  came events past w (more {events = es} {past = before} {w = last} e next r is h) = gone e next (came es before last r) (is, h)

  runs : (events : List (Event C)) (past : List (World C)) (w : World C) → Came (first n) Goes events past w → Run m n events past w
  runs events past w begun = start
  runs events past w (gone {events = es} {past = before} {w = last} e next r goes) = more e next (runs es before last r) goes.0 goes.1

  -- as many events as worlds before the last one
  pub run_even : (events : List (Event C)) (past : List (World C)) (w : World C) → Run m n events past w → length events ≡ length past
  run_even events past w r = came_even (first n) Goes events past w (came events past w r)

  -- up to a moment
  pub run_front : (events : List (Event C)) (past : List (World C)) (w : World C) → Run m n events past w → (k : ℕ) (x : World C) → moment past w k ≡ Some x → Run m n (take k events) (take k past) x
  run_front events past w r k x at = runs (take k events) (take k past) x (came_front (first n) Goes events past w (came events past w r) k x at)

  -- from one moment to the next
  pub run_step : (events : List (Event C)) (past : List (World C)) (w : World C) → Run m n events past w → (k : ℕ) (x y : World C) → moment past w k ≡ Some x → moment past w (suc k) ≡ Some y →
      Happened m events k x y
  run_step events past w r k x y at_k at =
      let s = came_step (first n) Goes events past w (came events past w r) k x y at_k at in
      record { event = s.0; at = s.1; is = s.2.0; happens = s.2.1 }

module _ {C : Type 0} where
  -- each earlier moment is there
  pub moment_before : (past : List (World C)) (w : World C) (k l : ℕ) (y : World C) → k ≤ l → moment past w l ≡ Some y → (x : World C) × (moment past w k ≡ Some x)
  moment_before past w k l y le at = get-some (past ++ w ∷ []) k (let q = get-within (past ++ w ∷ []) l y at in omega (arith, le, q))
