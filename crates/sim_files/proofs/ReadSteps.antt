-- The steps of a scenario's lines, read before the first is taken.
use Rattle.std.proofs.Common.{◌≡◌, ◌+◌, ◌<◌, ◌≤◌, ◌++◌, ◌∷◌, ℕ, List, [], String, arith, get_or, length, length-append, map, string_bytes, subst, sym, take}
use Rattle.std.specs.List.{All}
use Rattle.std.specs.declared.alloc.Global.{Global}
use Rattle.std.proofs.lemmas.List.{length-map, take_all}
use Rattle.std.proofs.lemmas.List.Elements.{All-cons, All-nil}
use Rattle.std.proofs.lemmas.Slice.Zip.{AllZip-long, all_zipped_more}
use Rattle.sim_scenario.specs.Complaints.{IsStepLine}
use Rattle.sim_scenario.specs.Steps.{IsLine, played_step}
use Rattle.sim_scenario.specs.declared.step.Step.{Step}
use Rattle.sim_play.proofs.Steps.{one_more_line}
use Rattle.sim_files.specs.Inner.Steps.{AreSteps}

IsOf : Step → List ℕ → Type 0
IsOf step line = IsLine (played_step step) line

pub one_more_step : (read : List Step) (lines : List (String Global)) (i : ℕ) (line : String Global) (step : Step)
    → AreSteps read (map string_bytes (take i lines)) → i < length lines → line ≡ get_or lines i line → IsLine (played_step step) (string_bytes line)
    → AreSteps (read ++ step ∷ []) (map string_bytes (take (i + 1) lines))
unfolding IsOf
one_more_step read lines i line step are inside at named =
    rw (one_more_line lines i line inside at) (all_zipped_more IsOf read (map string_bytes (take i lines)) step (string_bytes line) are named)

pub all_steps : (read : List Step) (lines : List (String Global)) (i : ℕ) → AreSteps read (map string_bytes (take i lines)) → length lines ≤ i
    → AreSteps read (map string_bytes lines)
all_steps read lines i are most = subst (λ ls. AreSteps read (map string_bytes ls)) (take_all i lines most) are

pub good_lines : (read : List Step) (lines : List (List ℕ)) → AreSteps read lines → All IsStepLine lines
good_lines [] [] are = All-nil IsStepLine
good_lines [] (line ∷ lines) are = absurd are
good_lines (step ∷ read) [] are = absurd are
good_lines (step ∷ read) (line ∷ lines) are = All-cons IsStepLine line lines (played_step step, are.0) (good_lines read lines are.1)

pub inside_lines : (gone : List Step) (step : Step) (rest : List Step) (lines : List (String Global))
    → AreSteps (gone ++ step ∷ rest) (map string_bytes lines) → length gone < length lines
unfolding IsOf
inside_lines gone step rest lines are =
    omega (arith, AllZip-long IsOf (gone ++ step ∷ rest) (map string_bytes lines) are, length-map lines string_bytes, length-append gone (step ∷ rest))

pub line_of : (gone : List Step) (step : Step) (rest : List Step) (lines : List (String Global)) (line : String Global)
    → AreSteps (gone ++ step ∷ rest) (map string_bytes lines) → line ≡ get_or lines (length gone) line → IsLine (played_step step) (string_bytes line)
line_of [] step rest [] line are at = absurd are
line_of [] step rest (first ∷ lines) line are at = subst (λ l. IsLine (played_step step) (string_bytes l)) (sym at) are.0
line_of (g ∷ gone) step rest [] line are at = absurd are
line_of (g ∷ gone) step rest (first ∷ lines) line are at = line_of gone step rest lines line are.1 at

pub all_taken : (gone left : List Step) (all : List Step) (lines : List (String Global)) (n : ℕ) → AreSteps all (map string_bytes lines) → gone ++ left ≡ all → n ≡ length left → n ≡ 0
    → length lines ≤ length gone
unfolding IsOf
all_taken gone left all lines n are split size none =
    let long : length (map string_bytes lines) ≡ length (gone ++ left) = rw split (AllZip-long IsOf all (map string_bytes lines) are) in
    omega (arith, long, length-map lines string_bytes, length-append gone left, size, none)
