use Rattle.std.proofs.Common.{arith}
use Rattle.fields_model.proofs.PlacedLaws.{placed_lawful}
use Rattle.machine_model.proofs.EntryLaws.{entry_lawful}
use Rattle.machine_model.proofs.laws.entries_are_lawful.Goals as goal

pub returns : goal.returns
returns g c = let m = g.M.Machine.spec in let law = g.met.M.Machine.lawful in record {
  lawful = λ version. entry_lawful _ (placed_lawful (m.commands version) (law.commands_lawful version));
  short = λ version. let few = law.commands_short version in omega (arith, few);
}
