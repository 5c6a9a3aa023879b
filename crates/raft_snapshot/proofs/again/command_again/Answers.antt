use Rattle.std.proofs.Common.{◌≡◌, ◌++◌, [], length, sym, ◌∙◌, subst, append-nil}
use Rattle.rows.specs.Versions.{newest}
use Rattle.machine_model.specs.MachineSpec.{IsCommandOf}
use Rattle.raft_snapshot.proofs.Rereads.{no_fault, read_again}
use Rattle.raft_snapshot.proofs.again.command_again.Goals as goal

pub returns-in-Ok : goal.returns-in-Ok
returns-in-Ok g c =
    let commands = g.M.Machine.spec.commands newest in
    let wrote = c.in_ok-write_command.ensures in
    let same : c.in-Ok.again ≡ c.args.command.now =
    read_again commands c.args.command.now c.in-Ok.again c.in-Ok.field-0-1 c.deref.result.now c.new-text.result.items c.write_command.new.out.items c.new-text.ensures.items wrote.1 c.deref.ensures.value (rw c.newest.ensures at c.in-Ok.ensures)
    (c.commands_are_whole.ensures.read newest c.args.command.now [] wrote.0) in
    (same, subst (λ x. IsCommandOf g.M.Machine.spec x) (sym same) wrote.0)

pub unreachable-requires : goal.unreachable-requires
unreachable-requires g c =
    let commands = g.M.Machine.spec.commands newest in
    let command = c.args.command.now in
    let wrote = c.in_ok-write_command.ensures in
    let text : c.deref.result.now ≡ commands.text command ++ [] = c.deref.ensures.value ∙ (rw c.new-text.ensures.items at wrote.1 ∙ sym (append-nil (commands.text command))) in
    no_fault c.in-Err.cause _ (command, length (commands.text command)) (c.commands_are_whole.ensures.read newest command [] wrote.0) (rw (c.newest.ensures, text) at c.in-Err.ensures) c.in_default.not-NoMemory
