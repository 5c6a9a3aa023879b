use Rattle.std.proofs.Common.{◌≡◌, ℕ, false, sym, subst}
use Rattle.group_model.specs.Drains.{is_done}
use Rattle.drain.proofs.Moving.{own_number, any_err}
use Rattle.drain.proofs.moves.next_moves.Goals as goal

pub returns-in_err-ids-in-Slow-clause-lives : goal.returns-in_err-ids-in-Slow-clause-lives
returns-in_err-ids-in-Slow-clause-lives c =
    let s = c.args.state.now in
    any_err c.from_residual.result _
    (λ e is. subst (λ (n : ℕ). is_done n s ≡ false) (own_number c.args.node c.in-Some.row.now s (sym c.in-Some.ensures)) c.in_err-ids-in-Slow.ensures.memory)

pub returns-in_err-ids-in-Force-clause-lives : goal.returns-in_err-ids-in-Force-clause-lives
returns-in_err-ids-in-Force-clause-lives c =
    let s = c.args.state.now in
    any_err c.from_residual-in_err-ids-in-Force.result _
    (λ e is. subst (λ (n : ℕ). is_done n s ≡ false) (own_number c.args.node c.in-Some.row.now s (sym c.in-Some.ensures)) c.in_err-ids-in-Force.ensures.memory)
