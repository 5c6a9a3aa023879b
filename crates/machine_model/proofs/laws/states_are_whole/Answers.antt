use Rattle.std.proofs.Math.Nat.{le_trans}
use Rattle.fields_model.proofs.WholeTexts.{whole_only, whole_found, no_text_begins_another}
use Rattle.machine_model.proofs.laws.states_are_whole.Goals as goal

pub returns : goal.returns
returns g c = let m = g.M.Machine.spec in let law = g.met.M.Machine.lawful in record {
  loaded = λ version. whole_only (m.states version) (law.states_lawful version);
  found = λ version bytes s fits e. let are = whole_found (m.states version) (law.states_lawful version) bytes s fits e in (law.states_stay version s are.0, are.1);
  apart = λ version. no_text_begins_another (m.states version) (law.states_lawful version);
  short = λ version s fits. le_trans ((law.states_lawful version).short s fits) (law.states_short version);
  command_short = λ version c fits. le_trans ((law.commands_lawful version).short c fits) (law.commands_short version);
}
