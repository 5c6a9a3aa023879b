use Rattle.std.proofs.Common.{option_map, subst, sym}
use Rattle.client_node.specs.Starts.{IsStored}
use Rattle.client_node.proofs.Starting.{begins}
use Rattle.client_node.proofs.start.begin.Goals as goal

pub returns : goal.returns
returns c =
    let store = option_map (λ text. text.now) c.args.stored in
    begins c.begin.result c.args.size c.args.node c.args.header.now store c.as_slice.result.now c.args.timers c.ranges-2.ensures
    (subst (λ l. IsStored c.args.header.now store l) (sym c.as_slice.ensures.value) c.in_ok-started.ensures.stored) c.begin.ensures
