use Rattle.group_safety.proofs.Senders.{senders}
use Rattle.group_safety.proofs.events.senders_are_members.Goals as goal

pub returns : goal.returns
returns g = senders
