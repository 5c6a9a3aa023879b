use Rattle.std.proofs.Common.{arith}
use Rattle.fields_model.proofs.IdLaws.{name_lawful, size_lawful, node_id_lawful, evaluation_id_lawful, allocation_id_lawful, token_lawful, delivery_lawful}
use Rattle.fields_model.proofs.RowLaws.{job_lawful, node_lawful, evaluation_lawful, allocation_lawful}
use Rattle.fields_model.proofs.CommandLaws.{plan_lawful, reports_lawful, command_lawful}
use Rattle.fields_model.proofs.StateTextLaws.{state_lawful, state_most}
use Rattle.fields_model.proofs.laws.rows_are_lawful.Goals as goal

pub returns : goal.returns
returns c = record {
  name = name_lawful;
  size = size_lawful;
  node_id = node_id_lawful;
  evaluation_id = evaluation_id_lawful;
  allocation_id = allocation_id_lawful;
  token = token_lawful;
  delivery = delivery_lawful;
  job = job_lawful;
  node = node_lawful;
  evaluation = evaluation_lawful;
  allocation = allocation_lawful;
  plan = plan_lawful;
  reports = reports_lawful;
  command = command_lawful;
  command_short = λ version. omega arith;
  state = state_lawful;
  state_short = state_most;
}
