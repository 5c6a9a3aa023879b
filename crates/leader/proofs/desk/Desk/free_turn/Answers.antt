use Rattle.std.proofs.Common.{subst, sym, ◌∙◌}
use Rattle.leader.specs.OpenDesks.{IsOverBlocked}
use Rattle.leader.proofs.Turning.{freed_of_state}
use Rattle.leader.proofs.desk.Desk.free_turn.Goals as goal

pub returns-in_ok-free_turn-in-Some-clause-of_state : goal.returns-in_ok-free_turn-in-Some-clause-of_state
returns-in_ok-free_turn-in-Some-clause-of_state c = λ s over.
    freed_of_state s c.args.projected.now c.in-Some.desk _ (subst (IsOverBlocked s) (sym c.self.view_is ∙ c.in-Some.is) over) c.in_ok-free_turn-in-Some.ensures.ok
