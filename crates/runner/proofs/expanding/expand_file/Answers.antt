use Rattle.std.proofs.Common.{refl, string_bytes}
use Rattle.runner.proofs.expanding.expand_file.Goals as goal

pub returns-clause-told : goal.returns-clause-told
returns-clause-told g c = record {
  text = c.in_ok-bytes.bytes.items;
  read = c.in_ok-bytes.ensures.bytes;
  form = string_bytes c.in_ok-form.form;
  expansion = rw c.as_slice.ensures.value at c.in_ok-form.ensures.plain;
  shown = rw c.as_str.ensures.value at c.in_ok-show.ensures.text;
  taken = refl;
}
