-- What the writers of a frame's parts do.
use Rattle.std.specs.Prelude.{◌≡◌, ℕ, List, ◌++◌}
use Rattle.fields_model.specs.Format.{Format}
use Rattle.wire.specs.Frames.{sized}

-- the text of the value, which has one, comes to the end behind its length
abbrev pub AddsSized : {A : Type 0} → Format A → A → List ℕ → List ℕ → Type 0
AddsSized f v old new = f.Fits v × (new ≡ old ++ sized (f.text v))
