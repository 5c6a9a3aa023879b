use Rattle.std.proofs.Common.{◌≡◌, ◌++◌, length}
use Rattle.std.specs.Vec.Iter.{into_iter_items, into_iter_len}
use Rattle.pages.proofs.table.Table.of_rising.Given as goal

abbrev pub invariant-loop-row : goal.invariant-loop-row
invariant-loop-row g l = record {
  taken : l.table ≡ l.yielded;
  rest : l.yielded ++ into_iter_items l.row-iterator ≡ l.fn.rows.items;
  counted : into_iter_len l.row-iterator ≡ length (into_iter_items l.row-iterator);
}
