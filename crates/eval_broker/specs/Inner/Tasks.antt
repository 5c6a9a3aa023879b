-- Marks as the code has them.
use Rattle.eval_broker.specs.declared.task.Mark.{Mark as Held}
use Rattle.eval_broker.specs.declared.task.Mark.TheVariants as held
use Rattle.group_model.specs.Brokers.{Mark, Free, Out, Acked}

abbrev pub mark_of : Held → Mark
mark_of held.Free = Free
mark_of (held.Out token wait) = Out token wait
mark_of held.Acked = Acked

-- and back
abbrev pub held_of : Mark → Held
held_of Free = held.Free
held_of (Out token wait) = held.Out token wait
held_of Acked = held.Acked
