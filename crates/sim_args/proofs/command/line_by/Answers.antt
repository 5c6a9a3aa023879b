use Rattle.std.proofs.Common.{◌≡◌, Bor, Err, List, [], ℕ, ap, map, refl, rules, subst, sym, true, ◌∙◌}
use Rattle.clap.specs.Words.{App, HasKind, HasMatchesOf, fault_of, is_simple, is_simple_and_free, subcommand_of, subcommand_rows_of}
use Rattle.clap.specs.declared.parser.matches.ArgMatches.{ArgMatches}
use Rattle.clap.proofs.OnLiterals.{clap_on_literals}
use Rattle.sim_args.specs.Words.{nomadsim_app}
use Rattle.sim_args.proofs.Counts.{answers_by, found_first, named_by}
use Rattle.sim_args.proofs.Lines.{line_is_named}
use Rattle.sim_args.proofs.command.line_by.Goals as goal

free : is_simple_and_free nomadsim_app ≡ true
unfolding clap_on_literals
free = refl

simple : is_simple nomadsim_app ≡ true
unfolding clap_on_literals
simple = refl

-- a parse that succeeds finds no fault, and the subcommand that the words name
parsed : (a : App) (words : List (List ℕ)) (m : ArgMatches) → a ≡ nomadsim_app → HasMatchesOf a words m → (is_simple_and_free a ≡ true → fault_of a words ≡ [])
    → (fault_of nomadsim_app words ≡ []) × (subcommand_rows_of m ≡ subcommand_of nomadsim_app words)
parsed a words m made has none =
    (sym (ap (λ x. fault_of x words) made) ∙ none (ap is_simple_and_free made ∙ free), (has (ap is_simple made ∙ simple)).1 ∙ ap (λ x. subcommand_of x words) made)

-- at the error of a parse, whose faults are those of the program's own command
pub returns-in_err-matches-clause-faults : goal.returns-in_err-matches-clause-faults
returns-in_err-matches-clause-faults c made =
    let words = map (λ (w : Bor (List ℕ)). w.now) c.args.words.now in
    let fails = c.in_err-matches.ensures.kinds (ap is_simple_and_free made ∙ free) in
    let same : c.from_residual.result ≡ Err c.in_err-matches.field-0.0 = search rules in
    rw same (found_first (fault_of nomadsim_app words) _ c.in_err-matches.field-0.0 (subst (λ (a : App). HasKind (fault_of a words) c.in_err-matches.field-0.0) made fails))

-- the line is that of the subcommand that the words name
pub returns-clause-named : goal.returns-clause-named
returns-clause-named c made =
    let words = map (λ (w : Bor (List ℕ)). w.now) c.args.words.now in
    let read = parsed _ words c.in_ok-matches.matches made c.in_ok-matches.ensures.ok.2 c.in_ok-matches.ensures.kinds in
    named_by _ _ c.line_or_error.result read.1 c.line_or_error.ensures.ok

-- and there is no fault in them, or the error is of the kind of one
pub returns-clause-faults : goal.returns-clause-faults
returns-clause-faults c made =
    let words = map (λ (w : Bor (List ℕ)). w.now) c.args.words.now in
    let read = parsed _ words c.in_ok-matches.matches made c.in_ok-matches.ensures.ok.2 c.in_ok-matches.ensures.kinds in
    answers_by (fault_of nomadsim_app words) _ _ c.line_or_error.result read.0 read.1 (line_is_named words read.0) c.line_or_error.ensures.ok c.line_or_error.ensures.untaken
    c.line_or_error.ensures.kind
