-- Versions of texts.
use Rattle.std.specs.Prelude.{ℕ}

-- the newest version, which alone is written, and which every frame has
abbrev pub newest : ℕ
newest = 3
