-- A mark of the definitions gives the code's mark back.
use Rattle.std.specs.Prelude.{◌≡◌}
use Rattle.std.proofs.Common.{refl}
use Rattle.eval_broker.specs.declared.task.Mark.{Mark as Held}
use Rattle.eval_broker.specs.declared.task.Mark.TheVariants as held
use Rattle.eval_broker.specs.Inner.Tasks.{mark_of, held_of}

pub given_back : (m : Held) → held_of (mark_of m) ≡ m
given_back held.Free = refl
given_back (held.Out token wait) = refl
given_back held.Acked = refl
