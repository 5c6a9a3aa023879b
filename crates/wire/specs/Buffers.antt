-- Frames whose bytes lie one after the other, with the place behind each.
use Rattle.std.specs.Prelude.{◌≡◌, ℕ, ◌≤◌, List, [], ◌∷◌, slice_range}
use Rattle.wire.specs.declared.frames.End.{End}
use Rattle.wire.specs.Frames.{Frame}

-- the frames of these ends, of which the first begins at `start`
abbrev pub frames_from : ℕ → List End → List ℕ → List Frame
frames_from start [] bytes = []
frames_from start (e ∷ ends) bytes =
    record { to = e.to; bytes = slice_range bytes start e.end } ∷ frames_from e.end ends bytes

-- no frame ends before it begins, and the last one ends at `last`
abbrev pub EndsAt : ℕ → List End → ℕ → Type 0
EndsAt start [] last = start ≡ last
EndsAt start (e ∷ ends) last = (start ≤ e.end) × EndsAt e.end ends last
