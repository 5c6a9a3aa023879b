use Rattle.std.proofs.Common.{refl, ◌++◌, zero-add}
use Rattle.fields_model.proofs.WholeTexts.{no_text_begins_another}
use Rattle.machine_model.proofs.laws.commands_are_whole.Goals as goal

pub returns : goal.returns
returns g c = let m = g.M.Machine.spec in let law = g.met.M.Machine.lawful in record {
  read = λ version c rest fits. rw zero-add at ((law.commands_lawful version).only ((m.commands version).text c ++ rest) 0 c rest fits refl);
  found = λ version bytes c size fits e. let s = (law.commands_lawful version).found bytes 0 c size fits e in (law.commands_stay version c s.fits, s);
  apart = λ version. no_text_begins_another (m.commands version) (law.commands_lawful version);
}
