use Rattle.std.proofs.Common.{◌≡◌, ◌∙◌, ◌<◌, ◌+◌, ◌++◌, ◌∷◌, [], ap, arith, length, length-append, map, rules, string_bytes}
use Rattle.std.specs.List.{All}
use Rattle.std.proofs.lemmas.List.{length-map, map-append}
use Rattle.std.proofs.lemmas.List.Elements.{All-append, All-cons, All-nil}
use Rattle.world.specs.GroupView.{node_in}
use Rattle.sim_expand.specs.Inner.Taking.{IsNoFlowLine}
use Rattle.sim_expand.proofs.settling.pull_lines.Goals as goal
use Rattle.sim_expand.proofs.settling.pull_lines.Goals.{else-branch, then-branch+in_ok-pull_line+in_ok-push}

pub loop-place-init : goal.loop-place-init
loop-place-init c =
    let none : c.new-lines.result.items ≡ [] = c.new-lines.ensures.items in
    let count : length c.new-lines.result.items ≡ 0 = ap length none in
    record { steps = rw none (All-nil IsNoFlowLine); few = omega (arith, count) }

pub pull_line-requires : goal.pull_line-requires
pull_line-requires c =
    let few = c.clients-client-items.ensures.nodes.0 in
    let inside : c.loop-place.place < length c.clients-client-items.result.now = search rules in
    let all = ap length c.clients-client-items.ensures.clients in
    let nodes = length-map c.args.world.now.clients node_in in
    (omega arith, omega (arith, few, inside, all, nodes))

pub loop-place-preserved : goal.loop-place-preserved
loop-place-preserved c =
    let was = c.loop-place.invariant in
    let before = was.few in
    elim c.if-branch.branch [
      | then-branch+in_ok-pull_line+in_ok-push w ↦
          let old = c.loop-place.lines.items in
          let own = w.in_ok-pull_line.field-0 in
          let put : w.push.new.self.items ≡ old ++ own ∷ [] = w.in_ok-push.ensures.items in
          let count : length w.push.new.self.items ≡ length old + 1 = ap length put ∙ length-append old (own ∷ []) in
          let steps : All IsNoFlowLine (map string_bytes old ++ string_bytes own ∷ []) =
          All-append IsNoFlowLine (map string_bytes old) (string_bytes own ∷ []) was.steps (All-cons IsNoFlowLine (string_bytes own) [] w.in_ok-pull_line.ensures (All-nil IsNoFlowLine)) in
          rw w.lines-is (record { steps = rw (put, map-append string_bytes old (own ∷ [])) steps; few = omega (arith, before, count) })
      | else-branch w ↦ rw w.lines-is (record { steps = was.steps; few = omega (arith, before) })
    ]
