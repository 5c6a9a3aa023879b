use Rattle.timers.proofs.Rests.{comes_as_often, comes_no_oftener}
use Rattle.timers.proofs.laws.turns_come_as_often.Goals as goal

pub returns : goal.returns
returns c = record { as_often = comes_as_often; no_oftener = comes_no_oftener }
