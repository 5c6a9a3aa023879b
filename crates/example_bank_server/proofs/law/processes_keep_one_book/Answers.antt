use Rattle.raft_model.specs.Logs.{commands}
use Rattle.example_bank_server.proofs.Books.{line_says}
use Rattle.example_bank_server.proofs.law.processes_keep_one_book.Goals as goal

pub returns : goal.returns
returns c = λ size past now lived.
    let one = c.lives_keep_one_list.ensures size past now lived in
    record { list = commands one.list; lines = λ k line had. line_says one.list line (one.lines k line had) }
