-- Where clap finds no fault in the words, they name a command line: one of the subcommands is met, and the word that it
-- needs has a value.
use Rattle.std.proofs.Common.{◌≡◌, ◌||◌, ◌&&◌, Bool, true, false, not, List, [], ◌∷◌, Option, Some, None, IfSome, bytes_eq, codes, cond, find, is_some, option_map, refl, subst, sym, true≢false}
use Rattle.std.specs.List.{list_any}
use Rattle.std.proofs.lemmas.Slice.Eq.{bytes_eq-Decides}
use Rattle.std.specs.Option.{option_map_or}
use Rattle.clap.specs.Words.{App, Row, Rule, Text, fault_of, first_of, subcommand_of}
use Rattle.clap.specs.Walk.{Names, answers_to, nothing_held, rows_after, settled, stop_after, walk, walk_from}
use Rattle.clap.specs.Simple.{Shape, argument_words, built_leaf, entered, filled, help_rule, help_shape, names_of, rows_at, version_rule, with_index}
use Rattle.clap.specs.Kinds.{Kinds, check_kinds}
use Rattle.clap.specs.Faults.{built_fault, check_fault, defaults_fault, entered_fault, level_fault, settle_fault, walk_fault}
use Rattle.clap.specs.Takes.{is_given}
use Rattle.sim_args.specs.Words.{app_with, at_option, csv_flag, every_option, html_flag, jobs_option, json_flag, keys_option, nomadsim_app, out_option, percent_option, required_word, short_flag, workers_option}
use Rattle.sim_args.specs.Inner.Lines.{is_line}
use Rattle.sim_args.proofs.GivenValues.{given_has_value, rows_are_valued}
use Rattle.sim_args.proofs.Rounds.{IsNoHelp, no_first, no_second, stops_at_no_help}

-- ---- the levels of the command, as clap builds them

abbrev help_flag : Rule
help_flag = filled help_rule

-- a subcommand of this name, with the word that it needs and its flags and options
abbrev level : Text → Text → List Rule → Shape
level name id others = record (built_leaf (app_with name id).top) { rules = with_index 1 (filled (required_word id)) ∷ others }

abbrev run_level : Shape
run_level = level (codes "run") (codes "FILE") (filled out_option ∷ help_flag ∷ [])

abbrev threads_level : Shape
threads_level = level (codes "threads") (codes "FILE") (filled workers_option ∷ filled out_option ∷ help_flag ∷ [])

abbrev replay_level : Shape
replay_level = level (codes "replay") (codes "T") (help_flag ∷ [])

abbrev draw_level : Shape
draw_level = level (codes "draw") (codes "T") (filled html_flag ∷ help_flag ∷ [])

abbrev check_level : Shape
check_level = level (codes "check") (codes "FILE") (filled short_flag ∷ help_flag ∷ [])

abbrev tell_level : Shape
tell_level = level (codes "tell") (codes "T") (help_flag ∷ [])

abbrev inspect_level : Shape
inspect_level = level (codes "inspect") (codes "T") (filled at_option ∷ filled json_flag ∷ help_flag ∷ [])

abbrev recover_level : Shape
recover_level = level (codes "recover") (codes "T") (filled at_option ∷ filled every_option ∷ help_flag ∷ [])

abbrev expand_level : Shape
expand_level = level (codes "expand") (codes "FILE") (help_flag ∷ [])

abbrev sweep_others : List Rule
sweep_others =
    filled keys_option ∷ filled (percent_option (codes "drop")) ∷ filled (percent_option (codes "repeat")) ∷ filled jobs_option ∷ filled csv_flag ∷ help_flag ∷ []

abbrev sweep_level : Shape
sweep_level = level (codes "sweep") (codes "FILE") sweep_others

-- `built nomadsim_app`, written out
abbrev levels : App
levels = record {
  top = record nomadsim_app.top { rules = help_flag ∷ filled version_rule ∷ []; is_built = true };
  subs = run_level ∷ threads_level ∷ replay_level ∷ draw_level ∷ check_level ∷ tell_level ∷ inspect_level ∷ recover_level ∷ expand_level ∷ sweep_level ∷ built_leaf help_shape ∷ [];
}

-- where a level has no fault, its walk, the subcommand that it enters and its last check have none
level_parts : (s : Shape) (names : Names) (words : List Text) (has_subcommand : Bool) (below : Kinds) → level_fault s names nothing_held words has_subcommand below ≡ []
    → (walk_fault s names (walk_from nothing_held) words ≡ []) × (below ≡ []) × (check_fault s (rows_after s.rules names words) has_subcommand ≡ [])
level_parts s names words has_subcommand below none =
    let end = (walk s.rules names nothing_held words).held in
    let walk_free = walk_fault s names (walk_from nothing_held) words in
    let after_walk = no_second walk_free _ none in
    let after_below = no_second below _ after_walk in
    let after_settle = no_second (settle_fault s.rules s.args_override_self end) _ after_below in
    (no_first walk_free _ none, no_first below _ after_walk, no_second (defaults_fault (settled s.rules end).rows s.rules) _ after_settle)

-- ---- below a subcommand: the word that it needs has a value

abbrev AreOther : Text → List Rule → Type 0
AreOther id others = (p : Rule → Bool) → IfSome (find (λ (a : Rule). not (is_some a.index) && p a) others) (λ a. bytes_eq a.id id ≡ false)

module _ (name id : Text) (others : List Rule) (apart : AreOther id others) where
  is_wanted : (rows : List Row) → check_fault (level name id others) rows false ≡ [] → is_given id rows ≡ true
  is_wanted rows none = go (is_given id rows) none
    where
      go : (b : Bool) → check_kinds false false (not b || list_any (λ (a : Rule). a.required && not (is_given a.id rows)) others) ≡ [] → b ≡ true
      go true none = refl
      go false none = absurd (cc)

  has_value : (words : List Text) → level_fault (level name id others) [] nothing_held words false [] ≡ []
      → is_some (first_of id (rows_after (level name id others).rules [] words)) ≡ true
  has_value words none =
      let rows = rows_after (level name id others).rules [] words in
      given_has_value id rows (rows_are_valued id (level name id others).rules apart [] words) (is_wanted rows (level_parts (level name id others) [] words false [] none).2)

other_more : (id : Text) (a : Rule) (others : List Rule) → bytes_eq a.id id ≡ false → AreOther id others → AreOther id (a ∷ others)
other_more id a others is apart p = go (not (is_some a.index) && p a)
  where
    go : (b : Bool) → IfSome (cond b (Some a) (find (λ (r : Rule). not (is_some r.index) && p r) others)) (λ r. bytes_eq r.id id ≡ false)
    go true = is
    go false = apart p

help_apart : (id : Text) → bytes_eq (codes "help") id ≡ false → AreOther id (help_flag ∷ [])
help_apart id is = other_more id help_flag [] is (λ p. tt)

out_apart : AreOther (codes "FILE") (filled out_option ∷ help_flag ∷ [])
out_apart = other_more (codes "FILE") (filled out_option) (help_flag ∷ []) refl (help_apart (codes "FILE") refl)

workers_apart : AreOther (codes "FILE") (filled workers_option ∷ filled out_option ∷ help_flag ∷ [])
workers_apart = other_more (codes "FILE") (filled workers_option) (filled out_option ∷ help_flag ∷ []) refl out_apart

html_apart : AreOther (codes "T") (filled html_flag ∷ help_flag ∷ [])
html_apart = other_more (codes "T") (filled html_flag) (help_flag ∷ []) refl (help_apart (codes "T") refl)

short_apart : AreOther (codes "FILE") (filled short_flag ∷ help_flag ∷ [])
short_apart = other_more (codes "FILE") (filled short_flag) (help_flag ∷ []) refl (help_apart (codes "FILE") refl)

json_apart : AreOther (codes "T") (filled json_flag ∷ help_flag ∷ [])
json_apart = other_more (codes "T") (filled json_flag) (help_flag ∷ []) refl (help_apart (codes "T") refl)

at_apart : AreOther (codes "T") (filled at_option ∷ filled json_flag ∷ help_flag ∷ [])
at_apart = other_more (codes "T") (filled at_option) (filled json_flag ∷ help_flag ∷ []) refl json_apart

every_apart : AreOther (codes "T") (filled every_option ∷ help_flag ∷ [])
every_apart = other_more (codes "T") (filled every_option) (help_flag ∷ []) refl (help_apart (codes "T") refl)

recover_apart : AreOther (codes "T") (filled at_option ∷ filled every_option ∷ help_flag ∷ [])
recover_apart = other_more (codes "T") (filled at_option) (filled every_option ∷ help_flag ∷ []) refl every_apart

csv_apart : AreOther (codes "FILE") (filled csv_flag ∷ help_flag ∷ [])
csv_apart = other_more (codes "FILE") (filled csv_flag) (help_flag ∷ []) refl (help_apart (codes "FILE") refl)

jobs_apart : AreOther (codes "FILE") (filled jobs_option ∷ filled csv_flag ∷ help_flag ∷ [])
jobs_apart = other_more (codes "FILE") (filled jobs_option) (filled csv_flag ∷ help_flag ∷ []) refl csv_apart

repeat_apart : AreOther (codes "FILE") (filled (percent_option (codes "repeat")) ∷ filled jobs_option ∷ filled csv_flag ∷ help_flag ∷ [])
repeat_apart = other_more (codes "FILE") (filled (percent_option (codes "repeat"))) (filled jobs_option ∷ filled csv_flag ∷ help_flag ∷ []) refl jobs_apart

drop_apart : AreOther (codes "FILE") (filled (percent_option (codes "drop")) ∷ filled (percent_option (codes "repeat")) ∷ filled jobs_option ∷ filled csv_flag ∷ help_flag ∷ [])
drop_apart = other_more (codes "FILE") (filled (percent_option (codes "drop"))) (filled (percent_option (codes "repeat")) ∷ filled jobs_option ∷ filled csv_flag ∷ help_flag ∷ []) refl repeat_apart

sweep_apart : AreOther (codes "FILE") sweep_others
sweep_apart =
    other_more (codes "FILE") (filled keys_option)
    (filled (percent_option (codes "drop")) ∷ filled (percent_option (codes "repeat")) ∷ filled jobs_option ∷ filled csv_flag ∷ help_flag ∷ []) refl drop_apart

-- ---- which subcommand is met

abbrev met : Bool → Bool → Bool → Bool → Bool → Bool → Bool → Bool → Bool → Bool → Bool → Option Shape
met run threads replay draw check tell inspect recover expand sweep help =
    cond run (Some run_level) (cond threads (Some threads_level) (cond replay (Some replay_level) (cond draw (Some draw_level) (cond check (Some check_level)
    (cond tell (Some tell_level) (cond inspect (Some inspect_level) (cond recover (Some recover_level) (cond expand (Some expand_level) (cond sweep (Some sweep_level) (cond help (Some (built_leaf help_shape)) None))))))))))

met_line : (words : List Text) (run threads replay draw check tell inspect recover expand sweep help : Bool) → help ≡ false
    → option_map_or (λ s. level_fault s [] nothing_held words false []) (met run threads replay draw check tell inspect recover expand sweep help) [] ≡ []
    → is_some (option_map (λ s. rows_at s words) (met run threads replay draw check tell inspect recover expand sweep help)) ≡ true
    → is_line (option_map (λ s. rows_at s words) (met run threads replay draw check tell inspect recover expand sweep help)) ≡ true
met_line words true threads replay draw check tell inspect recover expand sweep help no_help none some = rw (has_value (codes "run") (codes "FILE") _ out_apart words none) refl
met_line words false true replay draw check tell inspect recover expand sweep help no_help none some = rw (has_value (codes "threads") (codes "FILE") _ workers_apart words none) refl
met_line words false false true draw check tell inspect recover expand sweep help no_help none some = rw (has_value (codes "replay") (codes "T") _ (help_apart (codes "T") refl) words none) refl
met_line words false false false true check tell inspect recover expand sweep help no_help none some = rw (has_value (codes "draw") (codes "T") _ html_apart words none) refl
met_line words false false false false true tell inspect recover expand sweep help no_help none some = rw (has_value (codes "check") (codes "FILE") _ short_apart words none) refl
met_line words false false false false false true inspect recover expand sweep help no_help none some = rw (has_value (codes "tell") (codes "T") _ (help_apart (codes "T") refl) words none) refl
met_line words false false false false false false true recover expand sweep help no_help none some = rw (has_value (codes "inspect") (codes "T") _ at_apart words none) refl
met_line words false false false false false false false true expand sweep help no_help none some = rw (has_value (codes "recover") (codes "T") _ recover_apart words none) refl
met_line words false false false false false false false false true sweep help no_help none some = rw (has_value (codes "expand") (codes "FILE") _ (help_apart (codes "FILE") refl) words none) refl
met_line words false false false false false false false false false true help no_help none some = rw (has_value (codes "sweep") (codes "FILE") _ sweep_apart words none) refl
met_line words false false false false false false false false false false true no_help none some = absurd (true≢false no_help)
met_line words false false false false false false false false false false false no_help none some = some

help_not_met : (name : Text) → bytes_eq name (codes "help") ≡ false → answers_to name (codes "help", []) ≡ false
help_not_met name no_help = go (bytes_eq (codes "help") name) refl
  where
    go : (b : Bool) → bytes_eq (codes "help") name ≡ b → (b || false) ≡ false
    go true is = subst (λ t. bytes_eq t (codes "help") ≡ false) (sym ((bytes_eq-Decides (codes "help") name).0 is)) no_help
    go false is = refl

line_at : (stop : Option (Text × List Text)) → IsNoHelp stop → entered_fault levels stop ≡ [] → is_some (entered levels stop) ≡ true → is_line (entered levels stop) ≡ true
line_at None no_help none some = some
line_at (Some (name, rest)) no_help none some =
    met_line rest (answers_to name (codes "run", [])) (answers_to name (codes "threads", [])) (answers_to name (codes "replay", [])) (answers_to name (codes "draw", []))
    (answers_to name (codes "check", [])) (answers_to name (codes "tell", [])) (answers_to name (codes "inspect", [])) (answers_to name (codes "recover", [])) (answers_to name (codes "expand", [])) (answers_to name (codes "sweep", []))
    (answers_to name (codes "help", [])) (help_not_met name no_help) none some

-- a subcommand is wanted
is_entered : (rows : List Row) (b : Bool) → check_fault levels.top rows b ≡ [] → b ≡ true
is_entered rows true none = refl
is_entered rows false none = absurd (cc)

built_line : (words : List Text) → built_fault levels nothing_held words ≡ [] → is_line (entered levels (stop_after levels.top.rules (names_of levels) words)) ≡ true
built_line words none =
    let stop = stop_after levels.top.rules (names_of levels) words in
    let parts = level_parts levels.top (names_of levels) words (is_some (entered levels stop)) (entered_fault levels stop) none in
    line_at stop (stops_at_no_help levels.top (names_of levels) refl words (walk_from nothing_held) tt parts.0) parts.1
    (is_entered (rows_after levels.top.rules (names_of levels) words) (is_some (entered levels stop)) parts.2)

-- where clap finds no fault in the words, they name a command line
pub line_is_named : (words : List Text) → fault_of nomadsim_app words ≡ [] → is_line (subcommand_of nomadsim_app words) ≡ true
line_is_named words none = built_line (argument_words nomadsim_app words) none
