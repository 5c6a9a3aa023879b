use Rattle.fields_model.proofs.ServiceLaws.{eval_outcome_lawful, plan_result_lawful, asked_request_lawful, reason_lawful, client_request_kind_lawful, told_reason_lawful, listing_lawful}
use Rattle.fields_model.proofs.laws.services_are_lawful.Goals as goal

pub returns : goal.returns
returns c = record {
  eval_outcome = eval_outcome_lawful;
  plan_result = plan_result_lawful;
  asked_request = asked_request_lawful;
  reason = reason_lawful;
  client_request_kind = client_request_kind_lawful;
  told_reason = told_reason_lawful;
  listing = listing_lawful;
}
