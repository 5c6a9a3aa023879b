-- What is seen, each time it is looked, and for how long it has been seen by then.
use Rattle.std.specs.Prelude.{◌≡◌, ℕ, ◌+◌, ◌<◌, ◌≤◌, ◌==◌, ◌&&◌, Bool, true, false, if◌then◌else◌, nat_le, nat_lt, List, [], ◌∷◌, map, filter}
use Rattle.std.specs.List.{list_any}
use Rattle.timers.specs.declared.watch.Sighting.{Sighting}
use Rattle.timers.specs.declared.watch.Sighting.TheVariants.{Node, Delivery}
use Rattle.timers.specs.declared.watch.Watched.{Watched}

-- the same node, heard of equally often; or the same evaluation under the same token
abbrev pub is_same : Sighting → Sighting → Bool
is_same (Node n b) (Node m c) = (n == m) && (b == c)
is_same (Delivery e t) (Delivery f u) = (e.index == f.index) && ((e.slot == f.slot) && ((t.term == u.term) && (t.serial == u.serial)))
is_same (Node n b) (Delivery f u) = false
is_same (Delivery e t) (Node m c) = false

-- for how long it is seen once so many more milliseconds have passed: not at all where it was not
-- seen before
abbrev pub so_long : ℕ → List Watched → Sighting → ℕ
so_long ms [] what = 0
so_long ms (was ∷ before) what = if is_same was.what what then was.passed + ms else so_long ms before what

abbrev pub is_long : ℕ → ℕ → List Watched → Sighting → Bool
is_long grace ms before what = nat_le grace (so_long ms before what)

-- where it was long enough it begins anew
abbrev pub seen_for : ℕ → Sighting → ℕ → Watched
seen_for grace what long = record { what = what; passed = if nat_lt long grace then long else 0 }

-- what is watched from now on: all that is seen
abbrev pub watch_all : ℕ → ℕ → List Watched → List Sighting → List Watched
watch_all grace ms before seen = map (λ what. seen_for grace what (so_long ms before what)) seen

-- ---- over many looks

-- a look: the milliseconds since the one before, and what is seen
pub record Look : Type 0 where
  pub ms : ℕ
  pub seen : List Sighting

-- what is watched after these looks, the newest first
abbrev pub watched_after : ℕ → List Look → List Watched
watched_after grace [] = []
watched_after grace (look ∷ older) = watch_all grace look.ms (watched_after grace older) look.seen

abbrev pub is_seen : Sighting → List Sighting → Bool
is_seen what seen = list_any (λ other. is_same other what) seen

-- For how long it has been seen without a break, by looks, the newest first: the time from the
-- first look of those to the newest at all of which it was seen.
abbrev pub unbroken : Sighting → List Look → ℕ
unbroken what [] = 0
unbroken what (look ∷ []) = 0
unbroken what (look ∷ (before ∷ older)) =
    if is_seen what before.seen then look.ms + unbroken what (before ∷ older) else 0

-- It is long enough only where it has been seen without a break for that long.
abbrev pub IsSeenThatLong : ℕ → Look → List Look → Sighting → Type 0
IsSeenThatLong grace look older what =
    is_long grace look.ms (watched_after grace older) what ≡ true → grace ≤ unbroken what (look ∷ older)
