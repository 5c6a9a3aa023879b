use Rattle.fields_model.proofs.FieldLaws.{server_lawful, actor_lawful}
use Rattle.fields_model.proofs.laws.actors_are_lawful.Goals as goal

pub returns : goal.returns
returns c = record { server = server_lawful; actor = actor_lawful }
