use Rattle.std.proofs.Common.{◌++◌, ◌∷◌, [], List, map, ap, sym, ◌∙◌, append_assoc}
use Rattle.rows.specs.declared.node.Node.{Node}
use Rattle.fsm_tables.specs.Claims.{claims}
use Rattle.fsm_tables.specs.Runs.{rows_left}
use Rattle.sim_metrics.specs.Verdicts.{verdict}
use Rattle.sim_metrics.proofs.metrics.verdicts.Goals as goal

pub loop-node-preserved : goal.loop-node-preserved
loop-node-preserved c =
    let of = verdict (claims c.args.state.now.allocs) c.args.group.now in
    let done = c.loop-node.verdicts.items in
    let rest = map of (rows_left c.next.new.self) in
    ap (λ zs. zs ++ rest) c.in_ok-push.ensures.items
    ∙ append_assoc done (c.node_verdict.result ∷ []) rest
    ∙ ap (λ v. done ++ v ∷ rest) c.node_verdict.ensures
    ∙ sym (ap (λ (nodes : List Node). done ++ map of nodes) c.in-Some.ensures.steps)
    ∙ c.loop-node.invariant
