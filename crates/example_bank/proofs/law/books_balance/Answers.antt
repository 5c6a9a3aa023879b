use Rattle.example_bank.proofs.Books.{books, transfer_total, overdrawn, refused_leaves}
use Rattle.example_bank.proofs.law.books_balance.Goals as goal

pub returns : goal.returns
returns c = record {
  balanced = books;
  transfer = transfer_total;
  overdrawn = overdrawn;
  refused = refused_leaves;
}
