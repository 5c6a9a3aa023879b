-- Numbers of workers in the words of a command line, and the faults of words with one that is none.
use Rattle.std.proofs.Common.{◌≡◌, ◌+◌, ◌≤◌, ◌&&◌, ◌⊎◌, inl, inr, ℕ, Bool, Result, Ok, Err, IfOk, IfErr, true, false, not, List, [], ◌∷◌, Option, Some, None, IsSomeAnd, ap, arith, codes, cond, is_some, refl, subst, sym, true≢false}
use Rattle.std.proofs.lemmas.Bool.{le-leb}
use Rattle.std.specs.Option.{option_map_or}
use Rattle.clap.specs.Words.{FailsBy, HasKind, IsAmong, Kinds, Row, Text, first_of, kind_of}
use Rattle.clap.specs.Kinds.{or_else}
use Rattle.clap.specs.declared.error.Error.{Error}
use Rattle.clap.specs.declared.error.kind.ErrorKind.{ErrorKind}
use Rattle.clap.specs.declared.error.kind.ErrorKind.TheVariants.{OutOfMemory, ValueValidation}
use Rattle.sim_args.specs.Numbers.{IsGiven, is_given_well, keys_in}
use Rattle.sim_args.specs.Words.{AreSweepWords, AreWorkers, IsFlag, IsNamedLine, are_sweep_words, are_workers, miscounts}
use Rattle.sim_args.specs.declared.command.KeyRange.{KeyRange}
use Rattle.sim_args.specs.declared.command.SweepWords.{SweepWords}
use Rattle.sim_args.specs.Inner.Lines.{is_line, is_taken}
use Rattle.sim_args.specs.declared.command.CommandLine.{CommandLine}
use Rattle.sim_args.specs.declared.command.CommandLine.TheVariants.{Run, Threads, Replay, Draw, Check, Tell, Inspect, Recover, Expand, Sweep}

digit_counts : (n : ℕ) → 1 ≤ n → n ≤ 8 → are_workers ((n + 48) ∷ []) ≡ true
digit_counts n least most =
    let from : 49 ≤ n + 48 = omega arith in
    let to : n + 48 ≤ 56 = omega arith in
    rw (le-leb 49 (n + 48) from, le-leb (n + 48) 56 to) refl

word_counts : (n : ℕ) (given : Option Text) → IsSomeAnd given (λ word. AreWorkers word n) → option_map_or are_workers given false ≡ true
word_counts n None is = absurd is
word_counts n (Some word) (least, most, is) = rw is (digit_counts n least most)

given_counts : (low high : ℕ) (given : Option Text) (value : Option ℕ) → IsGiven low high given value → is_given_well low high given ≡ true
given_counts low high None value is = refl
given_counts low high (Some word) value is = rw is.1 refl

keys_count : (given : Option Text) (keys : KeyRange) → IsSomeAnd given (λ word. keys_in word ≡ Some keys) → option_map_or (λ word. is_some (keys_in word)) given false ≡ true
keys_count None keys is = absurd is
keys_count (Some word) keys is = rw is refl

words_count : (rows : List Row) (words : SweepWords) → AreSweepWords rows words → are_sweep_words rows ≡ true
words_count rows words is =
    rw (
      keys_count (first_of (codes "keys") rows) words.keys is.keys,
      given_counts 0 100 (first_of (codes "drop") rows) words.drop is.lost,
      given_counts 0 100 (first_of (codes "repeat") rows) words.repeat is.repeated,
      given_counts 1 64 (first_of (codes "jobs") rows) words.jobs is.jobs,
    )
    refl

-- the line of a subcommand has a number of workers, if it has to have one
pub line_counts : (named : Option (Text × List Row)) (line : CommandLine) → IsNamedLine named line → miscounts named ≡ false
line_counts None line is = absurd is
line_counts (Some (name, rows)) (Run file out) is = rw is.0 refl
line_counts (Some (name, rows)) (Threads file workers out) is = rw (is.0, word_counts workers (first_of (codes "workers") rows) is.2) refl
line_counts (Some (name, rows)) (Replay file) is = rw is.0 refl
line_counts (Some (name, rows)) (Draw file html) is = rw is.0 refl
line_counts (Some (name, rows)) (Check file short) is = rw is.0 refl
line_counts (Some (name, rows)) (Tell file) is = rw is.0 refl
line_counts (Some (name, rows)) (Inspect file at json) is = rw is.0 refl
line_counts (Some (name, rows)) (Recover file at every) is = rw is.0 refl
line_counts (Some (name, rows)) (Expand file) is = rw is.0 refl
line_counts (Some (name, rows)) (Sweep file words) is = rw (is.0, words_count rows words is.2) refl

-- what is no line, though it has its word, has a number of workers that is none
pub untaken_miscounts : (named : Option (Text × List Row)) → is_line named ≡ true → is_taken named ≡ false → miscounts named ≡ true
untaken_miscounts named line untaken = go (is_line named) (miscounts named) line untaken
  where
    go : (line bad : Bool) → line ≡ true → (line && not bad) ≡ false → bad ≡ true
    go true true line untaken = refl
    go true false line untaken = absurd (true≢false untaken)
    go false bad line untaken = absurd (true≢false (sym line))

-- ---- flags

pub flag_said : (text : Option Text) (flag : Bool) → (text ≡ None → flag ≡ false) → (text ≡ Some (codes "true") → flag ≡ true) → (text ≡ Some (codes "false") → flag ≡ false) → IsFlag text flag
flag_said None flag on_none on_true on_false = on_none refl
flag_said (Some t) flag on_none on_true on_false = (λ is. on_true (ap Some is), λ is. on_false (ap Some is))

-- ---- faults, of which the first are those that clap finds

pub none_found : (found : Kinds) (bad : Bool) → found ≡ [] → bad ≡ false → or_else found (cond bad (ValueValidation ∷ []) []) ≡ []
none_found [] true none well = absurd (true≢false well)
none_found [] false none well = refl
none_found (k ∷ ks) bad none well = none

pub bad_count : (found : Kinds) (bad : Bool) (kind : ErrorKind) → found ≡ [] → bad ≡ true → kind ≡ ValueValidation → (kind ≡ OutOfMemory) ⊎ IsAmong kind (or_else found (cond bad (ValueValidation ∷ []) []))
bad_count [] true kind none is same = inr (inl same)
bad_count [] false kind none is same = absurd (true≢false (sym is))
bad_count (k ∷ ks) bad kind none is same = absurd (cc)

pub found_first : (found after : Kinds) (e : Error) → HasKind found e → HasKind (or_else found after) e
found_first [] after e (inl memory) = inl memory
found_first [] after e (inr none) = absurd none
found_first (k ∷ ks) after e has = has

-- ---- what is answered where the matches have the subcommand that the words name

pub named_by : (found named : Option (Text × List Row)) (r : Result CommandLine Error) → found ≡ named → IfOk r (IsNamedLine found) → IfOk r (IsNamedLine named)
named_by found named (Ok line) same is = subst (λ n. IsNamedLine n line) same is
named_by found named (Err e) same is = tt

pub answers_by : (faults : Kinds) (found named : Option (Text × List Row)) (r : Result CommandLine Error) → faults ≡ [] → found ≡ named → is_line named ≡ true
    → IfOk r (IsNamedLine found) → IfErr r (λ e. is_taken found ≡ false) → IfErr r (λ e. (kind_of e ≡ OutOfMemory) ⊎ (kind_of e ≡ ValueValidation))
    → FailsBy (or_else faults (cond (miscounts named) (ValueValidation ∷ []) [])) r
answers_by faults found named (Ok line) none same has is untaken kind = none_found faults (miscounts named) none (line_counts named line (subst (λ n. IsNamedLine n line) same is))
answers_by faults found named (Err e) none same has is untaken (inl memory) = inl memory
answers_by faults found named (Err e) none same has is untaken (inr kind) =
    bad_count faults (miscounts named) (kind_of e) none (untaken_miscounts named has (subst (λ n. is_taken n ≡ false) same untaken)) kind
