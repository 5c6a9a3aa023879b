use Rattle.std.proofs.Common.{◌≡◌, ◌∙◌, ◌+◌, ◌<◌, ◌++◌, ◌∷◌, ◌||◌, [], Err, ap, arith, length, map, rules, string_bytes, sym, take}
use Rattle.std.proofs.lemmas.List.{map-append, take_more}
use Rattle.sim_expand.specs.Expanded.{LinesOf}
use Rattle.sim_expand.specs.ShortSteps.{has_elect, is_elect, short_step}
use Rattle.sim_expand.proofs.EachInTurn.{of_one_more_behind}
use Rattle.sim_expand.proofs.Expanded.{elect_with_next, lines_within, most_with_next, no_group, no_step}
use Rattle.sim_expand.proofs.Taking.{lines_now}
use Rattle.sim_expand.proofs.expanding.expanded.Goals as goal

pub loop-step-init : goal.loop-step-init
loop-step-init c =
    let none = c.in_ok-taken.ensures.none in
    let count : length c.in_ok-taken.taken.lines.items ≡ 0 = ap length none in
    record {
      settings = c.in_ok-taken.ensures.settings;
      nodes = c.in_ok-taken.ensures.nodes;
      behind = c.in_ok-taken.ensures.before;
      stands = c.in_ok-taken.ensures.stands;
      few = λ most are. omega (arith, count);
      order = ap (map string_bytes) none;
    }

pub loop-step-preserved : goal.loop-step-preserved
loop-step-preserved c =
    let settings = c.args.settings in
    let nodes = c.args.nodes.now in
    let steps = c.args.steps.now in
    let i = c.loop-step.step-index in
    let step = c.step-item.result in
    let inside : i < length steps = search rules in
    let was = c.loop-step.invariant in
    let own = c.in_ok-take.ensures.ok in
    let taken : take (i + 1) steps ≡ take i steps ++ step ∷ [] = take_more steps i step inside ∙ ap (λ x. take i steps ++ x ∷ []) (sym c.step-item.is) in
    let before = map string_bytes c.loop-step.taken.lines.items in
    let front = map short_step (take i steps) in
    let of_step : LinesOf settings nodes front before (short_step step) own.0 = rw (was.nodes, was.settings, was.behind) at own.1 in
    let now = lines_now own.0 c.loop-step.taken c.take.new.self own.2 in
    record {
      settings = own.2.settings ∙ was.settings;
      nodes = own.2.nodes ∙ was.nodes;
      behind = c.in_ok-take.ensures.behind ∙ ap (λ b. b || is_elect (short_step step)) was.behind ∙ sym (elect_with_next steps i step inside c.step-item.is);
      stands = own.2.stands;
      few = λ most are.
          let split = most_with_next steps i step inside c.step-item.is most are in
          let within = lines_within settings nodes (has_elect front) before (short_step step) own.0 split.1 of_step split.3 in
          omega (arith, was.few split.0 split.2, now, within, split.4);
      order = rw (taken, map-append short_step (take i steps) (step ∷ []), own.2.lines)
          (of_one_more_behind (LinesOf settings nodes) [] [] front (short_step step) before own.0 was.order of_step);
    }

pub returns-in_err-taken-clause-refused : goal.returns-in_err-taken-clause-refused
returns-in_err-taken-clause-refused c =
    let same : c.from_residual.result ≡ Err c.in_err-taken.field-0.0 = search rules in
    rw same (no_group c.args.settings c.args.nodes.now (map short_step c.args.steps.now) c.in_err-taken.field-0.0 c.in_err-taken.ensures.refused)

pub returns-in_err-take-clause-refused : goal.returns-in_err-take-clause-refused
returns-in_err-take-clause-refused c =
    let inside : c.loop-step.step-index < length c.args.steps.now = search rules in
    let same : c.from_residual-in_err-take.result ≡ Err c.in_err-take.field-0.0 = search rules in
    rw same (no_step c.args.steps.now c.loop-step.step-index c.step-item.result inside c.step-item.is c.args.settings c.args.nodes.now c.loop-step.taken c.in_err-take.field-0.0 c.loop-step.invariant.behind c.loop-step.invariant.few c.in_err-take.ensures.refused)

pub returns-clause-taken : goal.returns-clause-taken
returns-clause-taken c =
    let was = c.loop-step.invariant in
    let led = rw was.nodes at (rw was.settings at was.stands.led) in
    (was.stands.other, rw c.into_lines.ensures led)
