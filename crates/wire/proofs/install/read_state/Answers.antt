use Rattle.std.proofs.Common.{◌+◌, arith}
use Rattle.std.proofs.lemmas.List.{get_or-drop}
use Rattle.fields_model.specs.Format.{IsBytes}
use Rattle.wire.proofs.Installs.{whole_inside}
use Rattle.wire.proofs.install.read_state.Goals as goal

pub overflow_add-result : goal.overflow_add-result
overflow_add-result g c =
    let fits : IsBytes c.rest.result.now = λ i. rw (c.rest.ensures.bytes, get_or-drop) (omega (arith, c.type_inv.bytes (c.args.at + i))) in
    let within = whole_inside (g.M.Machine.spec.states c.newest.result) (g.met.M.Machine.lawful.states_lawful c.newest.result) c.rest.result.now c.in-Err-Frame.place fits (rw c.in-Err-Frame.field-0-is at c.in-Err-Frame.ensures) in
    omega (arith, within, c.rest.ensures.room)
