use Rattle.std.proofs.Common.{sym, ◌∙◌}
use Rattle.world.proofs.GroupStates.{no_state, state_is, state_safe}
use Rattle.world.proofs.GroupShown.{last_state}
use Rattle.world.proofs.group.world.World.state.Goals as goal

pub returns-in_err-server-clause-value : goal.returns-in_err-server-clause-value
returns-in_err-server-clause-value c past w runs = rw c.from_residual.ensures (no_state c.args.self.now c.args.server past w runs (sym c.in_err-server.ensures))

pub returns-clause-value : goal.returns-clause-value
returns-clause-value c past w runs = state_is c.args.self.now c.args.server past w runs c.in_ok-server.field-0.now c.state.result (sym c.in_ok-server.ensures) c.state.ensures

pub returns-clause-safe : goal.returns-clause-safe
returns-clause-safe c = state_safe c.args.self.now c.one_list.ensures c.safe_states.ensures c.args.server c.state.result
    (λ past w runs. state_is c.args.self.now c.args.server past w runs c.in_ok-server.field-0.now c.state.result (sym c.in_ok-server.ensures) c.state.ensures)

pub returns-in_err-server-clause-shown : goal.returns-in_err-server-clause-shown
returns-in_err-server-clause-shown c shown now h =
    let l = c.one_list.ensures in
    rw c.from_residual.ensures (no_state c.args.self.now c.args.server l.past l.world l.runs (sym c.in_err-server.ensures) ∙ sym (last_state c.args.self.now l.past l.world l.runs shown now h c.args.server))

pub returns-clause-shown : goal.returns-clause-shown
returns-clause-shown c shown now h =
    let l = c.one_list.ensures in
    state_is c.args.self.now c.args.server l.past l.world l.runs c.in_ok-server.field-0.now c.state.result (sym c.in_ok-server.ensures) c.state.ensures
    ∙ sym (last_state c.args.self.now l.past l.world l.runs shown now h c.args.server)
