use Rattle.std.proofs.Common.{rules, string_bytes}
use Rattle.runner.proofs.paging.json_of.Goals as goal

pub returns : goal.returns
returns c = record {
  lines = string_bytes c.in_ok-lines.lines;
  changes = string_bytes c.in_ok-moments.moments;
  told = rw c.deref.ensures.value at c.in_ok-lines.ensures;
  each = rw c.deref-2.ensures.value at c.in_ok-moments.ensures;
  whole = search rules;
}
