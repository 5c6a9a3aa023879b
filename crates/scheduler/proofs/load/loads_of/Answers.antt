use Rattle.std.proofs.Common.{◌≡◌, ◌++◌, ◌∷◌, [], List, map, ap, sym, ◌∙◌, append_assoc}
use Rattle.rows.specs.declared.node.Node.{Node}
use Rattle.fsm_tables.specs.Claims.{claims}
use Rattle.fsm_tables.specs.Runs.{rows_left}
use Rattle.scheduler.specs.declared.load.Load.{Load}
use Rattle.scheduler.specs.Inner.Loads.{load_of}
use Rattle.scheduler.proofs.load.loads_of.Goals as goal

pub loop-node-preserved : goal.loop-node-preserved
loop-node-preserved c =
    let of = load_of (claims c.args.state.now.allocs) in
    let node = c.in-Some.node.now in
    let done = c.loop-node.loads.items in
    let rest = map of (rows_left c.next.new.self) in
    let load : Load = record { node = node; used = c.used.result } in
    let same : load ≡ of node = λ i. record { node = node; used = c.used.ensures i } in
    ap (λ zs. zs ++ rest) c.in_ok-push.ensures.items
    ∙ append_assoc done (load ∷ []) rest
    ∙ (λ i. done ++ same i ∷ rest)
    ∙ sym (ap (λ (nodes : List Node). done ++ map of nodes) c.in-Some.ensures.steps)
    ∙ c.loop-node.invariant
