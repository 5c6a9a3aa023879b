-- The law of entries.
use Rattle.std.proofs.Common.{refl}
use Rattle.fields_model.specs.Format.{Format, Lawful}
use Rattle.fields_model.proofs.FormatLaws.{made_lawful, then_lawful}
use Rattle.fields_model.proofs.FieldLaws.{term_lawful}
use Rattle.machine_model.specs.Entries.{entry}

pub entry_lawful : {C : Type 0} (commands : Format C) → Lawful commands → Lawful (entry commands)
entry_lawful commands lc = made_lawful _ _ _ (λ _. refl) (λ _ _. refl) (then_lawful _ _ term_lawful lc)
