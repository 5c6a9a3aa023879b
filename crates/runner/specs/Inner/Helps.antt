-- What helps to mend a file that is at fault, as it is told at a terminal.
use Rattle.std.specs.Prelude.{◌++◌, ◌∷◌, if◌then◌else◌, ℕ, Bool, true, false, List, [], codes}
use Rattle.std.specs.Str.{bytes_eq}
use Rattle.sim_files.specs.declared.fault.Fault.{Fault}
use Rattle.sim_files.specs.declared.fault.Fault.TheVariants.{BadScenario, BadTranscript}
use Rattle.sim_files.specs.Hints.{hint_text}

-- the word behind the program's name
abbrev pub second_word : List (List ℕ) → List ℕ
second_word (name ∷ command ∷ others) = command
second_word words = []

-- which command says what is wrong with a scenario; nothing where it has just been said
abbrev pub scenario_help : List (List ℕ) → List ℕ
scenario_help words =
    if bytes_eq (second_word words) (codes "check") then []
    else (if bytes_eq (second_word words) (codes "expand") then codes "try 'nomadsim check FILE --short'\n" else codes "try 'nomadsim check FILE'\n")

-- the line behind a bad scenario or transcript, and nothing behind another fault
abbrev pub help_line : List (List ℕ) → Fault → List ℕ
help_line words BadScenario = scenario_help words
help_line words (BadTranscript place hint) = hint_text hint ++ 10 ∷ []
help_line words _ = []

-- where it is told at a terminal
abbrev pub help_at : Bool → List (List ℕ) → Fault → List ℕ
help_at true words fault = help_line words fault
help_at false words fault = []
