use Rattle.std.proofs.Common.{◌≡◌, ◌∙◌, ◌≤◌, ◌<◌, ◌++◌, ◌∷◌, [], ap, arith, get_or, length, length-append, map, rules, string_bytes, subst, sym}
use Rattle.std.specs.Vec.Iter.{into_iter_items, into_iter_len}
use Rattle.std.proofs.lemmas.List.{append_assoc, take_all}
use Rattle.sim_scenario.specs.Steps.{IsLine, played_step}
use Rattle.sim_files.specs.Inner.Steps.{AreSteps}
use Rattle.sim_files.specs.Plays.{TellsLines}
use Rattle.sim_files.proofs.ReadSteps.{all_taken, inside_lines, line_of}
use Rattle.sim_files.proofs.Stages.{step_refused, step_taken}
use Rattle.sim_files.proofs.running.take_steps.Goals as goal
use Rattle.sim_files.proofs.running.take_steps.Goals.{in-Err+in_ok-print_refusal, in_default}

pub loop-step-init : goal.loop-step-init
loop-step-init g c = record {
  split = c.into_iter-step-iterator.ensures.into_iter_gives.0;
  left = search rules;
  counted = search rules;
  most = search rules;
  quiet = search rules;
  told = search rules;
}

pub bounds-lines-place : goal.bounds-lines-place
bounds-lines-place g c =
    let l = c.loop-step in
    let lines = c.args.lines.now in
    let rest = into_iter_items c.next.new.self in
    let split : l.yielded ++ c.in-Some.step ∷ rest ≡ c.args.steps.items = ap (λ xs. l.yielded ++ xs) (sym c.in-Some.ensures.steps.0) ∙ l.invariant.split in
    let are = subst (λ xs. AreSteps xs (map string_bytes lines)) (sym split) c.requires.steps in
    omega (arith, l.invariant.counted, inside_lines l.yielded c.in-Some.step rest lines are)

pub loop-step-preserved : goal.loop-step-preserved
loop-step-preserved g c =
    let contents = g.W.Write.contents in
    let takes = g.S.Stage.Takes in
    let refuses = g.S.Stage.Refuses in
    let lines = c.args.lines.now in
    let l = c.loop-step in
    let was = l.invariant in
    let step = c.in-Some.step in
    let rest = into_iter_items c.next.new.self in
    let line = c.index-lines-place.result in
    let one = c.in-Some.ensures.steps in
    let split : l.yielded ++ step ∷ rest ≡ c.args.steps.items = ap (λ xs. l.yielded ++ xs) (sym one.0) ∙ was.split in
    let are = subst (λ xs. AreSteps xs (map string_bytes lines)) (sym split) c.requires.steps in
    let inside : l.place < length lines = omega (arith, was.counted, inside_lines l.yielded step rest lines are) in
    let is : line ≡ get_or lines l.place line = c.index-lines-place.is in
    let named : IsLine (played_step step) (string_bytes line) = line_of l.yielded step rest lines line are (subst (λ k. line ≡ get_or lines k line) was.counted is) in
    let more = append_assoc l.yielded (step ∷ []) rest ∙ split in
    let size = was.left in
    let next = one.1 in
    let short = ap length one.0 in
    elim c.match-take.branch [
      | in-Err+in_ok-print_refusal w ↦
          rw (w.out-is, w.status-is)
          (record {
            split = more;
            left = omega arith;
            counted = omega (arith, was.counted, length-append l.yielded (step ∷ []));
            most = omega arith;
            quiet = λ none. cc;
            told =
                step_refused takes refuses lines l.place line inside is _ named c.args.stage.now l.stage c.take.new.self l.status
                w.in-Err.refusal (contents c.args.out.now) (contents l.out) (contents w.print_refusal.new.out) (search rules) was.told
                (rw c.as_str-line.ensures.value at w.in_ok-print_refusal.ensures.line);
          })
      | in_default w ↦
          rw (w.out-is, w.status-is)
          (record {
            split = more;
            left = omega arith;
            counted = omega (arith, was.counted, length-append l.yielded (step ∷ []));
            most = was.most;
            quiet = was.quiet;
            told =
                step_taken takes refuses lines l.place line inside is _ named c.args.stage.now l.stage c.take.new.self l.status
                (contents c.args.out.now) (contents l.out) (search rules) was.told;
          })
    ]

pub returns-clause-told : goal.returns-clause-told
returns-clause-told g c =
    let contents = g.W.Write.contents in
    let lines = c.args.lines.now in
    let l = c.loop-step in
    let was = l.invariant in
    let gone = all_taken l.yielded (into_iter_items l.step-iterator) c.args.steps.items lines (into_iter_len l.step-iterator) c.requires.steps was.split was.left c.in-None.ensures.steps.0 in
    let most : length lines ≤ l.place = omega (arith, was.counted, gone) in
    subst (λ ls. TellsLines g.S.Stage.Takes g.S.Stage.Refuses (map string_bytes ls) c.args.stage.now l.stage l.status (contents c.args.out.now) (contents l.out))
    (take_all l.place lines most) was.told
