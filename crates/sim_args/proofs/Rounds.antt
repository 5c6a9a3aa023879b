-- Turns of clap's walk in which it finds no fault: none of them meets the subcommand `help`.
use Rattle.std.proofs.Common.{◌≡◌, ◌&&◌, Bool, true, false, not, List, [], ◌∷◌, Option, Some, None, IfSome, bytes_eq, codes, cond, fold, refl}
use Rattle.clap.specs.Lexer.{long_of, short_of}
use Rattle.clap.specs.Walk.{Held, Names, Outcome, Rule, Step, Text, Waiting, Walk, after_flag, after_step, arg_by_index, done, idle, long_or_other, next, option, plain, plain_word, positional, refused, short_or_plain, subcommand, subcommand_met, subcommand_or_other, to_positional, trailing, value, waits, walked, word_met}
use Rattle.clap.specs.Simple.{Shape}
use Rattle.clap.specs.Kinds.{Kinds, or_else}
use Rattle.clap.specs.Faults.{other_fault, turn_fault, walk_fault, word_fault}
use Rattle.clap.specs.declared.error.kind.ErrorKind.TheVariants.{DisplayHelp, InvalidSubcommand}

-- ---- where both steps have no fault, neither has one

pub no_first : (a b : Kinds) → or_else a b ≡ [] → a ≡ []
no_first [] b none = refl
no_first (k ∷ ks) b none = none

pub no_second : (a b : Kinds) → or_else a b ≡ [] → b ≡ []
no_second [] b none = none
no_second (k ∷ ks) b none = cc

-- ---- where a walk stops without a fault it has not met `help`

abbrev pub IsNoHelp : Option (Text × List Text) → Type 0
IsNoHelp stopped = IfSome stopped (λ p. bytes_eq p.0 (codes "help") ≡ false)

module _ (s : Shape) (names : Names) (answers : s.disable_help_subcommand ≡ false) where
  abbrev GoesOn : Step → Type 0
  GoesOn (next waiting) = Unit {0}
  GoesOn (trailing position) = Unit {0}
  GoesOn (subcommand name) = ⊥
  GoesOn value = Unit {0}

  plain_goes_on : (waiting : Waiting) (word : Text) (h : Held) → GoesOn (plain_word s.rules waiting word h).1
  plain_goes_on idle word h = tt
  plain_goes_on (option i) word h = tt
  plain_goes_on positional word h = tt

  flag_goes_on : (waiting : Waiting) (word : Text) (h : Held) (met : Outcome) → GoesOn (after_flag s.rules waiting word h met).1
  flag_goes_on waiting word h done = tt
  flag_goes_on waiting word h (waits i) = tt
  flag_goes_on waiting word h plain = plain_goes_on waiting word h
  flag_goes_on waiting word h refused = plain_goes_on waiting word h

  other_goes_on : (waiting : Waiting) (word : Text) (long : Option (Text × Option Text)) (h : Held) → GoesOn (long_or_other s.rules waiting word long h).1
  other_goes_on waiting word (Some p) h = flag_goes_on waiting word _ _
  other_goes_on waiting word None h = go (short_of word)
    where
      go : (flags : Option Text) → GoesOn (short_or_plain s.rules waiting word flags h).1
      go None = plain_goes_on waiting word h
      go (Some flags) = flag_goes_on waiting word _ _

  to_no_help : (found : Option Rule) (word : Text) (w : Walk) (h : Held) → IsNoHelp w.stopped → IsNoHelp (to_positional s.rules found word w h).stopped
  to_no_help None word w h was = was
  to_no_help (Some a) word w h was = tt

  on_no_help : (word : Text) (w : Walk) (h : Held) (step : Step) → GoesOn step → IsNoHelp w.stopped → IsNoHelp (after_step s.rules word w h step).stopped
  on_no_help word w h (next waiting) goes was = was
  on_no_help word w h (trailing position) goes was = was
  on_no_help word w h (subcommand name) goes was = absurd goes
  on_no_help word w h value goes was = to_no_help (arg_by_index s.rules w.position) word w h was

  -- a subcommand that is named, or none
  named_no_help : (name : Option Text) (word : Text) (w : Walk) → IsNoHelp w.stopped → other_fault s name word w.held ≡ []
      → let met = subcommand_or_other s.rules name w.waiting w.position word w.held in IsNoHelp (after_step s.rules word w met.0 met.1).stopped
  named_no_help None word w was none = go (bytes_eq word (45 ∷ 45 ∷ []))
    where
      go : (b : Bool) → let met = cond b (w.held, trailing w.position) (long_or_other s.rules w.waiting word (long_of word) w.held) in
          IsNoHelp (after_step s.rules word w met.0 met.1).stopped
      go true = was
      go false = on_no_help word w _ _ (other_goes_on w.waiting word (long_of word) w.held) was
  named_no_help (Some name) word w was none = go (bytes_eq name (codes "help")) s.disable_help_subcommand answers none
    where
      go : (b d : Bool) → d ≡ false → cond (b && not d) (DisplayHelp ∷ InvalidSubcommand ∷ []) [] ≡ [] → b ≡ false
      go true true off none = off
      go true false off none = absurd (cc)
      go false d off none = refl

  word_no_help : (is_trailing : Bool) (word : Text) (w : Walk) → IsNoHelp w.stopped → word_fault s names is_trailing w.waiting word w.held ≡ []
      → let met = word_met s.rules names is_trailing w.waiting w.position word w.held in IsNoHelp (after_step s.rules word w met.0 met.1).stopped
  word_no_help true word w was none = to_no_help (arg_by_index s.rules w.position) word w w.held was
  word_no_help false word w was none = named_no_help (subcommand_met names w.waiting word) word w was none

  pub stops_at_no_help : (words : List Text) (w : Walk) → IsNoHelp w.stopped → walk_fault s names w words ≡ [] → IsNoHelp (fold (walked s.rules names) w words).stopped
  unfolding walked walk_fault
  stops_at_no_help [] w was none = was
  stops_at_no_help (word ∷ words) w was none =
      stops_at_no_help words _ (go w.stopped was (no_first _ _ none)) (no_second (turn_fault s names w word) _ none)
    where
      go : (stopped : Option (Text × List Text)) → IsNoHelp stopped → turn_fault s names (record w { stopped = stopped }) word ≡ []
          → IsNoHelp (walked s.rules names (record w { stopped = stopped }) word).stopped
      go None was none = word_no_help w.is_trailing word (record w { stopped = None }) was (no_first _ _ none)
      go (Some p) was none = was
