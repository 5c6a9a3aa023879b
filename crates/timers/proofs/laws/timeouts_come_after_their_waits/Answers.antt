use Rattle.timers.proofs.Quiet.{ends_in_time, first_within, next_within}
use Rattle.timers.proofs.laws.timeouts_come_after_their_waits.Goals as goal

pub returns : goal.returns
returns c = record { in_time = ends_in_time; first = first_within; next = next_within }
