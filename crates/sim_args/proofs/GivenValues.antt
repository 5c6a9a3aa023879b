-- In what clap's walk finds, whatever the words are, a positional that was given has a value.
use Rattle.std.proofs.Common.{◌≡◌, ◌∙◌, ◌&&◌, ◌+◌, ◌++◌, ℕ, Bool, true, false, not, zero, suc, List, [], ◌∷◌, Option, Some, None, IfSome, bytes_eq, chars, cond, find, fold, is_some, length, min, option_and_then, refl, slice_get, subst, sym, true≢false}
use Rattle.std.specs.Option.{option_map_or}
use Rattle.std.proofs.lemmas.Slice.Eq.{bytes_eq-Decides}
use Rattle.clap.specs.Lexer.{long_of, short_of}
use Rattle.clap.specs.Facts.{explicit_source}
use Rattle.clap.specs.Walk.{Held, Names, Outcome, Row, Rule, Step, Text, Waiting, Walk, after_flag, after_step, arg_by_id, arg_by_index, arg_by_long, arg_by_short, at_row, attached_value, bundle, bundle_met, bundle_step, count_of, counted, default_rows, done, first_of, flag_met, has_long, has_row, has_short, idle, is_pending, long_met, long_or_other, more_values, new_count, next, nothing_held, option, option_met, option_word, plain, plain_word, positional, pushed, reacted, reading_by, refused, rows_after, settled, settled_rows, short_met, short_or_plain, subcommand, subcommand_met, subcommand_or_other, takes_several, takes_values, to_positional, trailing, used, used_as, used_by_id, value, values_or_missing, waits, walk, walk_from, walked, walked_from, with_count, with_default, with_values, without, word_met}
use Rattle.clap.specs.Takes.{is_given}
use Rattle.clap.specs.declared.builder.action.ArgAction.{ArgAction}
use Rattle.clap.specs.declared.builder.action.ArgAction.TheVariants.{Set, Append, SetTrue, SetFalse, Count, Help, HelpShort, HelpLong, Version}
use Rattle.clap.specs.declared.builder.value_parser.Reading.{Reading}
use Rattle.clap.specs.declared.parser.matches.ValueSource.{ValueSource}
use Rattle.clap.specs.declared.parser.matches.ValueSource.TheVariants.{DefaultValue, CommandLine}

-- ---- lists of values, and what a search finds

abbrev HasFirst : List Text → Type 0
HasFirst vs = is_some (slice_get vs 0) ≡ true

more_has_first : (vs ws : List Text) → HasFirst vs → HasFirst (vs ++ ws)
more_has_first [] ws has = absurd (true≢false (sym has))
more_has_first (v ∷ vs) ws has = refl

pushed_has_first : (vs : List Text) (w : Text) → HasFirst (vs ++ w ∷ [])
pushed_has_first [] w = refl
pushed_has_first (v ∷ vs) w = refl

found_passes : {X : Type 0} (p : X → Bool) (xs : List X) → IfSome (find p xs) (λ x. p x ≡ true)
found_passes p [] = tt
found_passes p (x ∷ xs) = go (p x) refl (found_passes p xs)
  where
    go : (b : Bool) → p x ≡ b → IfSome (find p xs) (λ y. p y ≡ true) → IfSome (cond b (Some x) (find p xs)) (λ y. p y ≡ true)
    go true is rest = is
    go false is rest = rest

-- ---- the positional of this id has a value in each row, and where its values wait

module _ (id : Text) where
  abbrev HasValue : Text → List Text → Type 0
  HasValue i vs = bytes_eq i id ≡ true → HasFirst vs

  abbrev pub AreValued : List Row → Type 0
  AreValued [] = Unit {0}
  AreValued (r ∷ rs) = HasValue r.id r.values × AreValued rs

  abbrev Holds : Held → Type 0
  Holds h = AreValued h.rows × IfSome h.pending (λ p. HasValue p.0 p.1)

  -- no flag or option has this id
  abbrev IsOther : Rule → Type 0
  IsOther a = bytes_eq a.id id ≡ false

  other_has : (i : Text) → bytes_eq i id ≡ false → HasValue i []
  other_has i other same = absurd (true≢false (sym same ∙ other))

  -- ---- rows

  joined : (rs ss : List Row) → AreValued rs → AreValued ss → AreValued (rs ++ ss)
  joined [] ss first second = second
  joined (r ∷ rs) ss first second = (first.0, joined rs ss first.1 second)

  changed : (i : Text) (change : Row → List Row) (missing : List Row) → ((r : Row) → HasValue r.id r.values → AreValued (change r)) → AreValued missing
      → (rows : List Row) → AreValued rows → AreValued (at_row i change missing rows)
  changed i change missing keeps new [] all = new
  changed i change missing keeps new (r ∷ rs) all = go (bytes_eq r.id i) (changed i change missing keeps new rs all.1)
    where
      go : (b : Bool) → AreValued (at_row i change missing rs) → AreValued (cond b (change r ++ rs) (r ∷ at_row i change missing rs))
      go true rest = joined (change r) rs (keeps r all.0) all.1
      go false rest = (all.0, rest)

  less : (i : Text) (rows : List Row) → AreValued rows → AreValued (without i rows)
  less i rows all = changed i (λ r. []) [] (λ r has. tt) tt rows all

  added : (i : Text) (how : Reading) (s : ValueSource) (vs : List Text) → HasValue i vs → (rows : List Row) → AreValued rows → AreValued (with_values i how s vs rows)
  added i how s vs has rows all = changed i (more_values s vs) _ (λ r old. (λ is. more_has_first r.values vs (old is), tt)) (has, tt) rows all

  count_added : (i : Text) (how : Reading) (s : ValueSource) (n : ℕ) (rows : List Row) → AreValued rows → AreValued (with_count i how s n rows)
  count_added i how s n rows all = changed i (new_count s n) _ (λ r old. (λ is. pushed_has_first r.values _, tt)) (λ is. refl, tt) rows all

  counts : (i : Text) (how : Reading) (vs : List Text) (rows : List Row) → AreValued rows → AreValued (counted i how vs rows)
  counts i how [] rows all = count_added i how CommandLine (min (count_of i rows + 1) 255) _ (less i rows all)
  counts i how (v ∷ vs) rows all = added i how CommandLine (v ∷ vs) (λ is. refl) _ (less i rows all)

  acts : (action : ArgAction) (i : Text) (how : Reading) (vs : List Text) → HasValue i vs → (rows : List Row) → AreValued rows → AreValued (used_as action i how vs rows)
  acts Set i how vs has rows all = added i how CommandLine vs has _ (less i rows all)
  acts SetTrue i how vs has rows all = added i how CommandLine vs has _ (less i rows all)
  acts SetFalse i how vs has rows all = added i how CommandLine vs has _ (less i rows all)
  acts Append i how vs has rows all = added i how CommandLine vs has rows all
  acts Count i how vs has rows all = counts i how vs rows all
  acts Help i how vs has rows all = all
  acts HelpShort i how vs has rows all = all
  acts HelpLong i how vs has rows all = all
  acts Version i how vs has rows all = all

  stands_in : (a : Rule) (vs : List Text) → HasValue a.id vs → HasValue a.id (values_or_missing a vs)
  stands_in a [] has = λ is. absurd (true≢false (sym (has is)))
  stands_in a (v ∷ vs) has = has

  uses : (a : Rule) (vs : List Text) → HasValue a.id vs → (rows : List Row) → AreValued rows → AreValued (used a vs rows)
  uses a vs has rows all = acts _ a.id (reading_by a) (values_or_missing a vs) (stands_in a vs has) rows all

  -- ---- what is held

  module _ (c : List Rule) (others : (p : Rule → Bool) → IfSome (find (λ (a : Rule). not (is_some a.index) && p a) c) IsOther) where
    uses_named : (found : Option Rule) (i : Text) (vs : List Text) → IfSome found (λ a. bytes_eq a.id i ≡ true) → HasValue i vs
        → (rows : List Row) → AreValued rows → AreValued (used_by_id found vs rows)
    uses_named None i vs is has rows all = all
    uses_named (Some a) i vs is has rows all = uses a vs (subst (λ t. HasValue t vs) (sym ((bytes_eq-Decides a.id i).0 is)) has) rows all

    settles : (h : Held) → Holds h → AreValued (settled c h).rows
    settles h holds = go h.pending holds.1
      where
        go : (pending : Option (Text × List Text)) → IfSome pending (λ p. HasValue p.0 p.1) → AreValued (settled_rows c pending h.rows)
        go None has = holds.0
        go (Some p) has = uses_named (arg_by_id c p.0) p.0 p.1 (found_passes (λ (a : Rule). bytes_eq a.id p.0) c) has h.rows holds.0

    reacts : (a : Rule) (vs : List Text) (h : Held) → HasValue a.id vs → Holds h → Holds (reacted c a vs h)
    reacts a vs h has holds = (uses a vs has _ (settles h holds), tt)

    option_holds : (a : Rule) (v : Option Text) (h : Held) → IsOther a → Holds h → Holds (option_met c a v h).0
    option_holds a (Some v) h other holds = reacts a (v ∷ []) h (λ is. refl) holds
    option_holds a None h other holds = (settles h holds, other_has a.id other)

    flag_holds : (a : Rule) (v : Option Text) (h : Held) → IsOther a → Holds h → Holds (flag_met c a v h).0
    flag_holds a (Some v) h other holds = holds
    flag_holds a None h other holds = reacts a [] h (other_has a.id other) holds

    long_holds : (found : Option Rule) (v : Option Text) (h : Held) → IfSome found IsOther → Holds h → Holds (long_met c found v h).0
    long_holds None v h other holds = holds
    long_holds (Some a) v h other holds = go (takes_values a)
      where
        go : (b : Bool) → Holds (cond b (option_met c a v h) (flag_met c a v h)).0
        go true = option_holds a v h other holds
        go false = flag_holds a v h other holds

    short_holds : (found : Option Rule) (rest : Text) (h : Held) (after : Held → Held × Outcome) → IfSome found IsOther → ((k : Held) → Holds k → Holds (after k).0)
        → Holds h → Holds (short_met c found rest h after).0
    short_holds None rest h after other later holds = holds
    short_holds (Some a) rest h after other later holds = go (takes_values a)
      where
        go : (b : Bool) → Holds (cond b (option_met c a (attached_value rest) h) (after (reacted c a [] h))).0
        go true = option_holds a (attached_value rest) h other holds
        go false = later (reacted c a [] h) (reacts a [] h (other_has a.id other) holds)

    bundle_holds : (k : ℕ) (flags : Text) (skip : ℕ) (so_far : Outcome) (h : Held) → Holds h → Holds (bundle_met c k flags skip so_far h).0
    unfolding bundle_met
    bundle_holds zero flags skip so_far h holds = holds
    bundle_holds (suc k) flags skip so_far h holds = go (slice_get (chars flags) 0) skip (bundle_holds k)
      where
        go : (first : Option ℕ) (skip : ℕ) → ((rest : Text) (less : ℕ) (before : Outcome) (g : Held) → Holds g → Holds (bundle_met c k rest less before g).0)
            → Holds (bundle_step c first flags skip so_far h (bundle_met c k)).0
        go None skip later = holds
        go (Some x) zero later = short_holds (arg_by_short c x) _ h _ (others (λ a. has_short a x)) (later _ 0 done) holds
        go (Some x) (suc skip) later = later _ skip so_far h holds

    push_holds : (i : Text) (word : Text) (h : Held) → AreValued h.rows → Holds (pushed i word h)
    push_holds i word h all = (all, λ is. pushed_has_first _ word)

    word_holds : (found : Option Rule) (i word : Text) (h : Held) → Holds h → Holds (option_word found i word h).0
    word_holds None i word h holds = holds
    word_holds (Some a) i word h holds = push_holds i word h holds.0

    plain_holds : (waiting : Waiting) (word : Text) (h : Held) → Holds h → Holds (plain_word c waiting word h).0
    plain_holds idle word h holds = holds
    plain_holds (option i) word h holds = word_holds (arg_by_id c i) i word h holds
    plain_holds positional word h holds = holds

    flagged_holds : (waiting : Waiting) (word : Text) (h : Held) (met : Outcome) → Holds h → Holds (after_flag c waiting word h met).0
    flagged_holds waiting word h done holds = holds
    flagged_holds waiting word h (waits i) holds = holds
    flagged_holds waiting word h plain holds = plain_holds waiting word h holds
    flagged_holds waiting word h refused holds = plain_holds waiting word h holds

    other_holds : (waiting : Waiting) (word : Text) (long : Option (Text × Option Text)) (h : Held) → Holds h → Holds (long_or_other c waiting word long h).0
    other_holds waiting word (Some p) h holds =
        flagged_holds waiting word _ (long_met c (arg_by_long c p.0) p.1 h).1
        (long_holds (arg_by_long c p.0) p.1 h (others (λ a. has_long a p.0)) holds)
    other_holds waiting word None h holds = go (short_of word)
      where
        go : (flags : Option Text) → Holds (short_or_plain c waiting word flags h).0
        go None = plain_holds waiting word h holds
        go (Some flags) = flagged_holds waiting word _ (bundle c flags h).1 (bundle_holds (length flags) flags h.skip plain (record h { skip = 0 }) holds)

    met_holds : (names : Names) (is_trailing : Bool) (waiting : Waiting) (position : ℕ) (word : Text) (h : Held) → Holds h
        → Holds (word_met c names is_trailing waiting position word h).0
    met_holds names true waiting position word h holds = holds
    met_holds names false waiting position word h holds = go (subcommand_met names waiting word)
      where
        dashes : (b : Bool) → Holds (cond b (h, trailing position) (long_or_other c waiting word (long_of word) h)).0
        dashes true = holds
        dashes false = other_holds waiting word (long_of word) h holds

        go : (name : Option Text) → Holds (subcommand_or_other c name waiting position word h).0
        go None = dashes (bytes_eq word (45 ∷ 45 ∷ []))
        go (Some name) = holds

    positional_holds : (found : Option Rule) (word : Text) (w : Walk) (h : Held) → Holds h → Holds (to_positional c found word w h).held
    positional_holds None word w h holds = holds
    positional_holds (Some a) word w h holds = go (is_pending a h.pending && takes_several a)
      where
        go : (b : Bool) → Holds (pushed a.id word (cond b h (settled c h)))
        go true = push_holds a.id word h holds.0
        go false = push_holds a.id word (settled c h) (settles h holds)

    step_holds : (word : Text) (w : Walk) (h : Held) (step : Step) → Holds h → Holds (after_step c word w h step).held
    step_holds word w h (next waiting) holds = holds
    step_holds word w h (trailing position) holds = holds
    step_holds word w h (subcommand name) holds = holds
    step_holds word w h value holds = positional_holds (arg_by_index c w.position) word w h holds

    walk_holds : (names : Names) (words : List Text) (w : Walk) → Holds w.held → Holds (fold (walked c names) w words).held
    unfolding walked
    walk_holds names [] w holds = holds
    walk_holds names (word ∷ words) w holds = walk_holds names words _ (go w.stopped)
      where
        go : (stopped : Option (Text × List Text)) → Holds (walked_from c names stopped w word).held
        go None =
            let met = word_met c names w.is_trailing w.waiting w.position word w.held in
            step_holds word w met.0 met.1 (met_holds names w.is_trailing w.waiting w.position word w.held holds)
        go (Some p) = holds

    -- ---- at the end

    default_holds : (a : Rule) (vs : List Text) (rows : List Row) → AreValued rows → AreValued (default_rows a.id (reading_by a) vs rows)
    default_holds a [] rows all = all
    default_holds a (v ∷ vs) rows all = added a.id (reading_by a) DefaultValue (v ∷ vs) (λ is. refl) rows all

    defaults_hold : (rules : List Rule) (rows : List Row) → AreValued rows → AreValued (fold with_default rows rules)
    defaults_hold [] rows all = all
    defaults_hold (a ∷ rest) rows all = defaults_hold rest _ (go (has_row a.id rows))
      where
        go : (b : Bool) → AreValued (cond b rows (default_rows a.id (reading_by a) a.defaults rows))
        go true = all
        go false = default_holds a a.defaults rows all

    pub rows_are_valued : (names : Names) (words : List Text) → AreValued (rows_after c names words)
    rows_are_valued names words =
        let h = (walk c names nothing_held words).held in
        defaults_hold c _ (settles h (walk_holds names words (walk_from nothing_held) (tt, tt)))

  -- so what is given has a value
  pub given_has_value : (rows : List Row) → AreValued rows → is_given id rows ≡ true → is_some (first_of id rows) ≡ true
  given_has_value [] all given = absurd (true≢false (sym given))
  given_has_value (r ∷ rs) all given = go (bytes_eq r.id id) refl given (given_has_value rs all.1)
    where
      go : (b : Bool) → bytes_eq r.id id ≡ b
          → option_map_or (λ (s : Row). explicit_source s.source) (cond b (Some r) (find (λ s. bytes_eq s.id id) rs)) false ≡ true
          → (is_given id rs ≡ true → is_some (first_of id rs) ≡ true)
          → is_some (option_and_then (λ (s : Row). slice_get s.values 0) (cond b (Some r) (find (λ s. bytes_eq s.id id) rs))) ≡ true
      go true is given rest = all.0 is
      go false is given rest = rest given
