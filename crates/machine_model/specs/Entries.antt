-- Entries as bytes: the term in eight bytes, and then the command.
use Rattle.fields_model.specs.Format.{Format, made, ◌then◌}
use Rattle.fields_model.specs.Fields.{term}
use Rattle.machine_model.specs.declared.entry.Entry.{Entry}

abbrev pub entry : {C : Type 0} → Format C → Format (Entry C)
entry commands = made (λ p. record { term = p.0; command = p.1 }) (λ e. (e.term, e.command)) (term then commands)
