use Rattle.example_bank.proofs.Histories.{one_book}
use Rattle.example_bank.proofs.history.one_book.Goals as goal

pub returns : goal.returns
returns c = one_book c.args.world.now c.one_list.ensures (λ past w runs. c.states_are_safe.ensures.admitted _ _ past w runs.run)
