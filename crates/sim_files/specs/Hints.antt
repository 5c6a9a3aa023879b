-- What is printed of what was to come in a transcript.
use Rattle.std.specs.Prelude.{◌++◌, ℕ, List, codes, string_bytes}
use Rattle.sim_scenario.specs.WrongTexts.{position_text}
use Rattle.sim_files.specs.declared.hint.Hint.{Hint}

abbrev pub hint_text : Hint → List ℕ
hint_text h = position_text h.place ++ (codes ": " ++ string_bytes h.wanted)
