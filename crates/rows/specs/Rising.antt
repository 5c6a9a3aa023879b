-- Lists in strictly rising key, and lists that keep a rule.
use Rattle.std.specs.Prelude.{◌-◌, Bool, true, ◌&&◌, List, [], ◌∷◌, ◌++◌, Option, Some, None, length}
use Rattle.std.specs.List.{slice_get}
use Rattle.std.specs.declared.cmp.Ordering.{Ordering}
use Rattle.std.specs.Ordering.{is_lt}

-- each may stand behind those in front of it, of which `front` are the first
abbrev pub keeps : {X : Type 0} → (List X → X → Bool) → List X → List X → Bool
keeps rule front [] = true
keeps rule front (x ∷ xs) = rule front x && keeps rule (front ++ x ∷ []) xs

module _ {K X : Type 0} (R : K → K → Ordering) (key : X → K) where
  -- whether a key is below those of all rows
  abbrev pub is_below : K → List X → Bool
  is_below k [] = true
  is_below k (y ∷ ys) = is_lt (R k (key y)) && is_below k ys

  -- whether the keys strictly rise
  abbrev pub is_rising : List X → Bool
  is_rising [] = true
  is_rising (y ∷ ys) = is_below (key y) ys && is_rising ys

  -- whether a key is above that of the last row, if there is one
  abbrev pub is_above : Option X → K → Bool
  is_above None k = true
  is_above (Some last) k = is_lt (R (key last) k)

  abbrev pub is_behind : List X → K → Bool
  is_behind front k = is_above (slice_get front (length front - 1)) k
