use Rattle.example_bank.proofs.Histories.{bank_now, bank_of_each}
use Rattle.example_bank.proofs.history.bank_of.Goals as goal

pub returns-clause-history : goal.returns-clause-history
returns-clause-history c = bank_now c.args.world.now c.one_book.ensures c.args.server c.machine.result c.machine.ensures.value

pub returns-clause-book : goal.returns-clause-book
returns-clause-book c = bank_of_each c.args.world.now c.args.server c.machine.result c.machine.ensures.value
