use Rattle.std.proofs.Common.{arith}
use Rattle.raft_snapshot.proofs.TextLaws.{whole_inside}
use Rattle.raft_snapshot.proofs.reading.read_state.Goals as goal

pub overflow_add-result : goal.overflow_add-result
overflow_add-result g c =
    let within = whole_inside (g.M.Machine.spec.states c.args.version) (g.met.M.Machine.lawful.states_lawful c.args.version) c.args.text.now c.in-Err-Frame.place (λ i. omega (arith, c.type_inv.text i)) (rw c.in-Err-Frame.field-0-is at c.in-Err-Frame.ensures) in
    omega (arith, c.requires, within)
