use Rattle.std.proofs.Common.{◌≡◌, ◌∙◌, ◌+◌, ◌<◌, ◌≤◌, ◌++◌, ◌∷◌, [], Err, ap, arith, length, map, rules, string_bytes, subst, sym, take}
use Rattle.std.proofs.lemmas.List.{length-map, length-take-le, map-append, take_all, take_more}
use Rattle.sim_expand.specs.Inner.Taking.{IsNoFlowLine, TakesThese}
use Rattle.sim_expand.proofs.Taking.{at_line, lines_now, may_stand, none_of_these, step_stops, stops_behind, stops_with_more, these_and_these}
use Rattle.sim_expand.proofs.expanding.Taken.take_lines.Goals as goal

pub loop-line-init : goal.loop-line-init
loop-line-init c = none_of_these c.args.self.now c.requires.stands

pub line-requires-clause-stands : goal.line-requires-clause-stands
line-requires-clause-stands c = c.loop-line.invariant.more.stands

pub line-requires-clause-may_stand : goal.line-requires-clause-may_stand
line-requires-clause-may_stand c =
    let lines = c.args.lines.now in
    let i = c.loop-line.line-index in
    let inside : i < length lines = search rules in
    let is : IsNoFlowLine (string_bytes c.line-item.result) = at_line IsNoFlowLine lines i c.line-item.result c.requires.steps inside c.line-item.is in
    rw c.as_str.ensures.value (may_stand c.loop-line.self.behind (string_bytes c.line-item.result) is.other)

pub loop-line-preserved : goal.loop-line-preserved
loop-line-preserved c =
    let lines = c.args.lines.now in
    let i = c.loop-line.line-index in
    let line = c.line-item.result in
    let inside : i < length lines = search rules in
    let own = rw c.as_str.ensures.value at c.in_ok-line.ensures.ok in
    let more : map string_bytes (take (i + 1) lines) ≡ map string_bytes (take i lines) ++ string_bytes line ∷ [] =
    ap (map string_bytes) (take_more lines i line inside ∙ ap (λ x. take i lines ++ x ∷ []) (sym c.line-item.is))
    ∙ map-append string_bytes (take i lines) (line ∷ []) in
    rw more (these_and_these c.args.self.now c.loop-line.self c.line.new.self (map string_bytes (take i lines)) (string_bytes line ∷ []) c.loop-line.invariant own)

pub returns-in_err-line-clause-refused : goal.returns-in_err-line-clause-refused
returns-in_err-line-clause-refused c =
    let lines = c.args.lines.now in
    let i = c.loop-line.line-index in
    let inside : i < length lines = search rules in
    let same : c.from_residual.result ≡ Err c.in_err-line.field-0.0 = search rules in
    let is : IsNoFlowLine (string_bytes c.line-item.result) = at_line IsNoFlowLine lines i c.line-item.result c.requires.steps inside c.line-item.is in
    let why = step_stops (string_bytes c.line-item.result) c.loop-line.self c.in_err-line.field-0.0 is.step (rw c.as_str.ensures.value at c.in_err-line.ensures.refused) in
    let count : length (map string_bytes (take i lines)) ≡ i = length-map (take i lines) string_bytes ∙ length-take-le i lines (omega (arith, inside)) in
    let now = lines_now (map string_bytes (take i lines)) c.args.self.now c.loop-line.self c.loop-line.invariant.more in
    rw same (stops_with_more (i + 1) (length lines) c.args.self.now c.in_err-line.field-0.0 (omega (arith, inside)) (stops_behind i 1 c.args.self.now c.loop-line.self c.in_err-line.field-0.0 (omega (arith, now, count)) why))

pub returns-clause-ok : goal.returns-clause-ok
returns-clause-ok c =
    let lines = c.args.lines.now in
    let i = c.loop-line.line-index in
    let past : length lines ≤ i = search rules in
    subst (λ all. TakesThese c.args.self.now (map string_bytes all) c.loop-line.self) (take_all i lines past) c.loop-line.invariant
