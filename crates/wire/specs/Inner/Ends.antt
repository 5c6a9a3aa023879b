-- Where a frame begins.
use Rattle.std.specs.Prelude.{ℕ, zero, suc, List, [], ◌∷◌}
use Rattle.wire.specs.declared.frames.End.{End}

-- the end of the frame before the k-th, or `start` of the first
abbrev pub start_of : ℕ → List End → ℕ → ℕ
start_of start ends zero = start
start_of start [] (suc k) = start
start_of start (e ∷ ends) (suc k) = start_of e.end ends k
