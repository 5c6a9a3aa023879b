use Rattle.wire.proofs.Framing.{message_only, message_found, frames_apart, message_is_short}
use Rattle.wire.proofs.laws.frames_are_whole.Goals as goal

pub returns : goal.returns
returns g c =
    let spec = g.M.Machine.spec in
    let law = g.met.M.Machine.lawful in
    record {
      again = λ m fits. message_only spec law m fits;
      found = λ bytes m fits e. message_found spec law bytes m fits e;
      apart = λ m n x y fm fn e. frames_apart spec law m n x y fm fn e;
      short = λ m fits. message_is_short spec law m fits;
    }
