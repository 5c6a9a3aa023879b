-- The cells of a row.
use Rattle.std.specs.Prelude.{◌≡◌, ℕ, Option, Some, None, Result, Ok, Err, String, List, [], ◌∷◌, ◌++◌}
use Rattle.std.specs.declared.alloc.Global.{Global}
use Rattle.rows.specs.declared.refusal.NoMemory.{NoMemory}
use Rattle.wire.specs.Frames.{Frame}
use Rattle.sim_tell.specs.Sent.{sent_words}
use Rattle.sim_tell.specs.Words.{with_word}

-- a text that there was memory for comes behind others
abbrev pub PutsCell : Result (String Global) NoMemory → List (String Global) → List (String Global) → Type 0
PutsCell (Ok cell) old new = new ≡ old ++ cell ∷ []
PutsCell (Err error) old new = ⊥

-- a message, if it was sent, comes behind a text
abbrev pub with_sent : ℕ → Option Frame → List ℕ → List ℕ
with_sent number None text = text
with_sent number (Some frame) text = with_word text (sent_words number frame)
