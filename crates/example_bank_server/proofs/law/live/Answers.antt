use Rattle.example_bank.specs.Bank.{bank_spec}
use Rattle.example_bank_server.specs.Lines.{bank_reason, bank_words}
use Rattle.example_bank_server.specs.Lives.{node_code}
use Rattle.example_bank_server.proofs.Lives.{under_way}
use Rattle.example_bank_server.proofs.law.live.Goals as goal

pub returns : goal.returns
returns g c = λ size me did done before after.
    under_way (node_code bank_spec bank_words bank_reason size) me c.args.node.now c.serve.new.actor (g.O.Outside.happened c.args.outside.now) (g.O.Outside.happened c.serve.new.outside) did done
    c.serve.result c.serve.ensures.ok c.serve.ensures.err before after
