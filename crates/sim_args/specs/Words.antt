-- What the words of a command line ask for, by the reading of words that `clap` defines.
use Rattle.std.specs.Prelude.{◌≡◌, ◌+◌, ◌≤◌, ℕ, Bool, true, false, not, nat_le, ◌&&◌, ◌||◌, if◌then◌else◌, List, [], ◌∷◌, Option, Some, None, IsSomeAnd, is_some, codes, option_map}
use Rattle.std.specs.Option.{option_map_or}
use Rattle.std.specs.Str.{bytes_eq}
use Rattle.clap.specs.Words.{App, Kinds, Row, Rule, Text, fault_of, first_of, new_app, new_rule, subcommand_of, with_rule, with_subcommand}
use Rattle.clap.specs.Kinds.{or_else}
use Rattle.clap.specs.Walk.{one_of}
use Rattle.clap.specs.declared.builder.action.ArgAction.TheVariants.{SetTrue}
use Rattle.clap.specs.declared.builder.value_parser.ValueParser.TheVariants.{Unsigned}
use Rattle.clap.specs.declared.builder.action.ArgAction.TheVariants.{SetTrue}
use Rattle.clap.specs.declared.error.kind.ErrorKind.TheVariants.{ValueValidation}
use Rattle.sim_args.specs.declared.command.CommandLine.{CommandLine}
use Rattle.sim_args.specs.declared.command.CommandLine.TheVariants.{Run, Threads, Replay, Draw, Check, Tell, Inspect, Recover, Expand, Sweep}
use Rattle.sim_args.specs.declared.command.SweepWords.{SweepWords}
use Rattle.sim_args.specs.Numbers.{IsGiven, is_given_well, keys_in}

-- a word that has to be there
abbrev pub required_word : Text → Rule
required_word id = record (new_rule id) { required = true }

-- `--out T`
abbrev pub out_option : Rule
out_option = record (new_rule (codes "out")) { long = Some (codes "out"); value_names = 1 }

-- `--workers N`, by clap a number from 1 to 8, and 2 where it is left out
abbrev pub workers_option : Rule
workers_option = record (new_rule (codes "workers")) {
  long = Some (codes "workers");
  value_names = 1;
  parser = Some (Unsigned 1 8);
  defaults = codes "2" ∷ [];
}

-- `--at K`
abbrev pub at_option : Rule
at_option = record (new_rule (codes "at")) { long = Some (codes "at"); value_names = 1 }

-- `--every N`
abbrev pub every_option : Rule
every_option = record (new_rule (codes "every")) { long = Some (codes "every"); value_names = 1 }

-- `--json`
abbrev pub json_flag : Rule
json_flag = record (new_rule (codes "json")) { long = Some (codes "json"); action = Some SetTrue }

-- `--html`
abbrev pub html_flag : Rule
html_flag = record (new_rule (codes "html")) { long = Some (codes "html"); action = Some SetTrue }

-- `--short`
abbrev pub short_flag : Rule
short_flag = record (new_rule (codes "short")) { long = Some (codes "short"); action = Some SetTrue }

-- a subcommand of this name with a word that has to be there
abbrev pub app_with : Text → Text → App
app_with name id = with_rule (new_app name) (required_word id)

abbrev pub run_app : App
run_app = with_rule (app_with (codes "run") (codes "FILE")) out_option

abbrev pub threads_app : App
threads_app =
    with_rule (with_rule (app_with (codes "threads") (codes "FILE")) workers_option) out_option

abbrev pub replay_app : App
replay_app = app_with (codes "replay") (codes "T")

abbrev pub draw_app : App
draw_app = with_rule (app_with (codes "draw") (codes "T")) html_flag

abbrev pub check_app : App
check_app = with_rule (app_with (codes "check") (codes "FILE")) short_flag

abbrev pub tell_app : App
tell_app = app_with (codes "tell") (codes "T")

abbrev pub inspect_app : App
inspect_app = with_rule (with_rule (app_with (codes "inspect") (codes "T")) at_option) json_flag

abbrev pub recover_app : App
recover_app =
    with_rule (with_rule (app_with (codes "recover") (codes "T")) at_option) every_option

abbrev pub expand_app : App
expand_app = app_with (codes "expand") (codes "FILE")

-- `--keys A..B`, which has to be there
abbrev pub keys_option : Rule
keys_option = record (new_rule (codes "keys")) {
  long = Some (codes "keys");
  value_names = 1;
  required = true;
}

-- a number with a name of its own, by clap from the one limit to the other
abbrev pub number_option : Text → ℕ → ℕ → Rule
number_option id low high = record (new_rule id) {
  long = Some id;
  value_names = 1;
  parser = Some (Unsigned low high);
}

-- `--drop P` and `--repeat P`
abbrev pub percent_option : Text → Rule
percent_option id = number_option id 0 100

-- `--jobs N`
abbrev pub jobs_option : Rule
jobs_option = number_option (codes "jobs") 1 64

-- `--csv`
abbrev pub csv_flag : Rule
csv_flag = record (new_rule (codes "csv")) { long = Some (codes "csv"); action = Some SetTrue }

-- `nomadsim sweep FILE --keys A..B`, and with its percentages
abbrev pub keys_app : App
keys_app = with_rule (app_with (codes "sweep") (codes "FILE")) keys_option

abbrev pub percents_app : App
percents_app =
    with_rule (with_rule keys_app (percent_option (codes "drop"))) (percent_option (codes "repeat"))

abbrev pub sweep_app : App
sweep_app = with_rule (with_rule percents_app jobs_option) csv_flag

-- the program without its subcommands: one is wanted, or `--help` or `--version`
abbrev pub bare_app : App
bare_app =
    let a = new_app (codes "nomadsim") in
    record a { top = record a.top { has_version = true; subcommand_required = true } }

-- `nomadsim run FILE [--out T]`, `nomadsim threads FILE [--workers N] [--out T]`,
-- `nomadsim replay T`, `nomadsim draw T [--html]`, `nomadsim check FILE [--short]`,
-- `nomadsim tell T`, `nomadsim inspect T [--at K] [--json]`,
-- `nomadsim recover T [--at K] [--every N]`, `nomadsim expand FILE`,
-- `nomadsim sweep FILE --keys A..B [--drop P] [--repeat P] [--jobs N] [--csv]`
abbrev pub nomadsim_app : App
nomadsim_app =
    with_subcommand
    (with_subcommand
    (with_subcommand
    (with_subcommand
    (with_subcommand
    (with_subcommand
    (with_subcommand
    (with_subcommand (with_subcommand (with_subcommand bare_app run_app.top) threads_app.top) replay_app.top)
    draw_app.top)
    check_app.top)
    tell_app.top)
    inspect_app.top)
    recover_app.top)
    expand_app.top)
    sweep_app.top

-- the word is this number of workers: one digit from 1 to 8, with no sign and no zero in front
abbrev pub AreWorkers : Text → ℕ → Type 0
AreWorkers word n = (1 ≤ n) × (n ≤ 8) × (word ≡ (n + 48) ∷ [])

-- whether the word is a number of workers: one byte, from '1' (49) to '8' (56)
abbrev pub are_workers : Text → Bool
are_workers (digit ∷ []) = nat_le 49 digit && nat_le digit 56
are_workers word = false

-- whether a flag's value is that it was given
abbrev pub says_yes : Option Text → Bool
says_yes None = false
says_yes (Some word) = bytes_eq word (codes "true")

-- what the text of a flag says, which is false where it has none
abbrev pub IsFlag : Option Text → Bool → Type 0
IsFlag None flag = flag ≡ false
IsFlag (Some text) flag = (text ≡ codes "true" → flag ≡ true) × (text ≡ codes "false" → flag ≡ false)

-- the values of the words of a sweep, but for its file
pub record AreSweepWords (rows : List Row) (words : SweepWords) : Type 0 where
  pub keys : IsSomeAnd (first_of (codes "keys") rows) (λ word. keys_in word ≡ Some words.keys)
  pub lost : IsGiven 0 100 (first_of (codes "drop") rows) words.drop
  pub repeated : IsGiven 0 100 (first_of (codes "repeat") rows) words.repeat
  pub jobs : IsGiven 1 64 (first_of (codes "jobs") rows) words.jobs
  pub csv : IsFlag (one_of (codes "csv") rows) words.csv

-- whether these are the words of a sweep
abbrev pub are_sweep_words : List Row → Bool
are_sweep_words rows =
    option_map_or (λ word. is_some (keys_in word)) (first_of (codes "keys") rows) false
    && (is_given_well 0 100 (first_of (codes "drop") rows)
    && (is_given_well 0 100 (first_of (codes "repeat") rows) && is_given_well 1 64 (first_of (codes "jobs") rows)))

-- the line that a subcommand's name with its values asks for
abbrev pub IsLineFor : Text → List Row → CommandLine → Type 0
IsLineFor name rows (Run file out) =
    (name ≡ codes "run") × (first_of (codes "FILE") rows ≡ Some file.now)
    × (first_of (codes "out") rows ≡ option_map (λ t. t.now) out)
IsLineFor name rows (Threads file workers out) =
    (name ≡ codes "threads") × (first_of (codes "FILE") rows ≡ Some file.now)
    × IsSomeAnd (first_of (codes "workers") rows) (λ word. AreWorkers word workers)
    × (first_of (codes "out") rows ≡ option_map (λ t. t.now) out)
IsLineFor name rows (Replay file) =
    (name ≡ codes "replay") × (first_of (codes "T") rows ≡ Some file.now)
IsLineFor name rows (Draw file html) =
    (name ≡ codes "draw") × (first_of (codes "T") rows ≡ Some file.now)
    × (html ≡ says_yes (first_of (codes "html") rows))
IsLineFor name rows (Check file short) =
    (name ≡ codes "check") × (first_of (codes "FILE") rows ≡ Some file.now)
    × (short ≡ says_yes (first_of (codes "short") rows))
IsLineFor name rows (Tell file) =
    (name ≡ codes "tell") × (first_of (codes "T") rows ≡ Some file.now)
IsLineFor name rows (Inspect file at json) =
    (name ≡ codes "inspect") × (first_of (codes "T") rows ≡ Some file.now)
    × (first_of (codes "at") rows ≡ option_map (λ k. k.now) at)
    × (json ≡ says_yes (first_of (codes "json") rows))
IsLineFor name rows (Recover file at every) =
    (name ≡ codes "recover") × (first_of (codes "T") rows ≡ Some file.now)
    × (first_of (codes "at") rows ≡ option_map (λ k. k.now) at)
    × (first_of (codes "every") rows ≡ option_map (λ n. n.now) every)
IsLineFor name rows (Expand file) =
    (name ≡ codes "expand") × (first_of (codes "FILE") rows ≡ Some file.now)
IsLineFor name rows (Sweep file words) =
    (name ≡ codes "sweep") × (first_of (codes "FILE") rows ≡ Some file.now) × AreSweepWords rows words

abbrev pub IsNamedLine : Option (Text × List Row) → CommandLine → Type 0
IsNamedLine None line = ⊥
IsNamedLine (Some named) line = IsLineFor named.0 named.1 line

-- whether the subcommand is `threads`, with a number of workers that is none: one that `clap`
-- reads, with a sign or a zero in front; or `sweep`, with keys that are no range, or such a number
abbrev pub miscounts : Option (Text × List Row) → Bool
miscounts None = false
miscounts (Some named) =
    (bytes_eq named.0 (codes "threads")
    && not (option_map_or are_workers (first_of (codes "workers") named.1) false))
    || (bytes_eq named.0 (codes "sweep") && not (are_sweep_words named.1))

-- what the words ask for, the program's own name first
abbrev pub AskFor : List Text → CommandLine → Type 0
AskFor words line = IsNamedLine (subcommand_of nomadsim_app words) line

-- the line asks that steps or events be taken
abbrev pub IsPlay : CommandLine → Type 0
IsPlay (Run file out) = Unit {0}
IsPlay (Threads file workers out) = Unit {0}
IsPlay (Replay file) = Unit {0}
IsPlay (Draw file html) = ⊥
IsPlay (Check file short) = ⊥
IsPlay (Tell file) = ⊥
IsPlay (Inspect file at json) = ⊥
IsPlay (Recover file at every) = ⊥
IsPlay (Expand file) = ⊥
IsPlay (Sweep file words) = ⊥

-- the words ask for such a line
abbrev pub AskForPlay : List Text → Type 0
AskForPlay words = (line : CommandLine) × AskFor words line × IsPlay line

-- the line asks for a run on threads
abbrev pub IsThreads : CommandLine → Type 0
IsThreads (Run file out) = ⊥
IsThreads (Threads file workers out) = Unit {0}
IsThreads (Replay file) = ⊥
IsThreads (Draw file html) = ⊥
IsThreads (Check file short) = ⊥
IsThreads (Tell file) = ⊥
IsThreads (Inspect file at json) = ⊥
IsThreads (Recover file at every) = ⊥
IsThreads (Expand file) = ⊥
IsThreads (Sweep file words) = ⊥

-- the words ask for such a line
abbrev pub AskForThreads : List Text → Type 0
AskForThreads words = (line : CommandLine) × AskFor words line × IsThreads line

-- the kinds of error that the first fault of the words may have, none where there is no fault:
-- those that `clap` finds, and where it finds none that of a number or of keys that are none
abbrev pub words_fault : List Text → Kinds
words_fault words =
    or_else (fault_of nomadsim_app words)
    (if miscounts (subcommand_of nomadsim_app words) then ValueValidation ∷ [] else [])
