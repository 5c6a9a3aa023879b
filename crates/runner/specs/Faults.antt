-- What an exit status says of the words of a command line.
use Rattle.std.specs.Prelude.{◌≡◌, ◌⊎◌, ℕ, []}
use Rattle.clap.specs.Words.{IsAmong, Kinds}
use Rattle.clap.specs.declared.error.kind.ErrorKind.TheVariants as kinds

-- the words ask for help, or for the version
abbrev pub AskForHelp : Kinds → Type 0
AskForHelp found = IsAmong kinds.DisplayHelp found ⊎ IsAmong kinds.DisplayVersion found

-- 0 comes only where the words have no fault, or ask for help; 1 only where they have none
abbrev pub IsExit : Kinds → ℕ → Type 0
IsExit found status = (status ≡ 0 → (found ≡ []) ⊎ AskForHelp found) × (status ≡ 1 → found ≡ [])
