-- Whether there is a line for what the words of a command line name.
use Rattle.std.specs.Prelude.{Bool, false, not, ◌&&◌, ◌||◌, if◌then◌else◌, List, Option, Some, None, is_some, codes}
use Rattle.std.specs.Option.{option_map_or}
use Rattle.std.specs.Str.{bytes_eq}
use Rattle.clap.specs.Words.{Row, Text, first_of}
use Rattle.sim_args.specs.Numbers.{keys_in}
use Rattle.sim_args.specs.Words.{miscounts}
use Rattle.sim_args.specs.declared.help.TheConstants.{NO_COUNT, NO_KEYS, NO_NUMBER}

-- whether a subcommand is the one of this name, and has a value for this word
abbrev pub has_word : Text → Text → Text × List Row → Bool
has_word name id named = bytes_eq named.0 name && is_some (first_of id named.1)

-- whether there is a subcommand with a value for the word that it needs
abbrev pub is_line : Option (Text × List Row) → Bool
is_line None = false
is_line (Some named) =
    has_word (codes "run") (codes "FILE") named || (has_word (codes "threads") (codes "FILE") named
    || (has_word (codes "replay") (codes "T") named || (has_word (codes "draw") (codes "T") named
    || (has_word (codes "check") (codes "FILE") named || (has_word (codes "tell") (codes "T") named
    || (has_word (codes "inspect") (codes "T") named || (has_word (codes "recover") (codes "T") named
    || (has_word (codes "expand") (codes "FILE") named || has_word (codes "sweep") (codes "FILE") named))))))))

-- whether a subcommand's name with its values asks for a line
abbrev pub is_taken : Option (Text × List Row) → Bool
is_taken named = is_line named && not (miscounts named)

-- whether the keys of a sweep are keys
abbrev pub has_keys : List Row → Bool
has_keys rows = option_map_or (λ word. is_some (keys_in word)) (first_of (codes "keys") rows) false

-- What is told where `clap` finds no fault, and there is no line: of a sweep that its keys are none,
-- or where they are keys that a number is none; of anything else that the number of workers is none.
abbrev pub complaint_text : Option (Text × List Row) → Text
complaint_text None = NO_COUNT.now
complaint_text (Some named) =
    if bytes_eq named.0 (codes "sweep") then (if has_keys named.1 then NO_NUMBER.now else NO_KEYS.now) else NO_COUNT.now
