-- What stands behind the header of each kind of message that workers, the leader's desk and agents
-- send.
use Rattle.std.specs.Prelude.{ℕ, List, Option, Some, None}
use Rattle.fields_model.specs.Format.{Format, nothing, ◌then◌, option, variant}
use Rattle.fields_model.specs.Ids.{name, size, evaluation_id, token, delivery}
use Rattle.fields_model.specs.Fields.{index}
use Rattle.fields_model.specs.Commands.{plan, reports}
use Rattle.fields_model.specs.Services.{eval_outcome, plan_result, asked_request, reason, client_request_kind, told_reason, listing}
use Rattle.rows.specs.Versions.{newest}
use Rattle.rows.specs.declared.evaluation.EvalId.{EvalId}
use Rattle.rows.specs.declared.token.Token.{Token}
use Rattle.rows.specs.declared.token.Delivery.{Delivery}
use Rattle.rows.specs.declared.size.Size.{Size}
use Rattle.rows.specs.declared.plan.Plan.{Plan}
use Rattle.rows.specs.declared.reason.Reason.{Reason}
use Rattle.rows.specs.declared.listing.ListedAllocation.{ListedAllocation}
use Rattle.rows.specs.declared.command.Report.{Report}
use Rattle.rows.specs.declared.worker.EvalOutcome.{EvalOutcome}
use Rattle.rows.specs.declared.worker.AskedRequest.{AskedRequest}
use Rattle.rows.specs.declared.worker.PlanResult.{PlanResult}
use Rattle.rows.specs.declared.worker.ClientRequestKind.{ClientRequestKind}
use Rattle.rows.specs.declared.worker.WorkerRequest.TheVariants as requests
use Rattle.rows.specs.declared.worker.WorkerResponse.TheVariants as responses
use Rattle.wire.specs.declared.body.Body.{Body}
use Rattle.wire.specs.declared.body.Body.TheVariants as bodies

-- ---- what each of them says

abbrev pub take_request_of : {S C : Type 0} → Body S C → Option (Unit {0})
take_request_of (bodies.Request requests.Take) = Some tt
take_request_of _ = None

abbrev pub submit_request_of : {S C : Type 0} → Body S C → Option Plan
submit_request_of (bodies.Request (requests.Submit p)) = Some p
submit_request_of _ = None

abbrev pub finish_request_of : {S C : Type 0} → Body S C → Option (EvalId × (Token × EvalOutcome))
finish_request_of (bodies.Request (requests.Finish eval t outcome)) = Some (eval, (t, outcome))
finish_request_of _ = None

abbrev pub nack_request_of : {S C : Type 0} → Body S C → Option (EvalId × Token)
nack_request_of (bodies.Request (requests.Nack eval t)) = Some (eval, t)
nack_request_of _ = None

abbrev pub delivered_of : {S C : Type 0} → Body S C → Option (Option Delivery)
delivered_of (bodies.Response (responses.Delivered d)) = Some d
delivered_of _ = None

abbrev pub plan_result_of : {S C : Type 0} → Body S C → Option PlanResult
plan_result_of (bodies.Response (responses.PlanResult result)) = Some result
plan_result_of _ = None

abbrev pub refused_of : {S C : Type 0} → Body S C → Option (AskedRequest × Reason)
refused_of (bodies.Response (responses.Refused asked why)) = Some (asked, why)
refused_of _ = None

abbrev pub register_of : {S C : Type 0} → Body S C → Option (List ℕ × Size)
register_of (bodies.Register class room) = Some (class, room)
register_of _ = None

abbrev pub heartbeat_of : {S C : Type 0} → Body S C → Option (Unit {0})
heartbeat_of bodies.Heartbeat = Some tt
heartbeat_of _ = None

abbrev pub pull_of : {S C : Type 0} → Body S C → Option (Unit {0})
pull_of bodies.Pull = Some tt
pull_of _ = None

abbrev pub list_of : {S C : Type 0} → Body S C → Option (ℕ × List ListedAllocation)
list_of (bodies.List place rows) = Some (place, rows)
list_of _ = None

abbrev pub report_message_of : {S C : Type 0} → Body S C → Option (List Report)
report_message_of (bodies.Report items) = Some items
report_message_of _ = None

abbrev pub told_message_of : {S C : Type 0} → Body S C → Option (ClientRequestKind × Option Reason)
told_message_of (bodies.Told asked why) = Some (asked, why)
told_message_of _ = None

-- ---- their formats

abbrev pub take_body : {S C : Type 0} → Format (Body S C)
take_body = variant (λ _. bodies.Request requests.Take) take_request_of nothing

abbrev pub delivered_body : {S C : Type 0} → Format (Body S C)
delivered_body = variant (λ d. bodies.Response (responses.Delivered d)) delivered_of (option delivery)

abbrev pub submit_body : {S C : Type 0} → Format (Body S C)
submit_body = variant (λ p. bodies.Request (requests.Submit p)) submit_request_of plan

abbrev pub plan_result_body : {S C : Type 0} → Format (Body S C)
plan_result_body = variant (λ r. bodies.Response (responses.PlanResult r)) plan_result_of plan_result

abbrev pub finish_body : {S C : Type 0} → Format (Body S C)
finish_body = variant (λ p. bodies.Request (requests.Finish p.0 p.1.0 p.1.1)) finish_request_of (evaluation_id then token then eval_outcome)

abbrev pub nack_body : {S C : Type 0} → Format (Body S C)
nack_body = variant (λ p. bodies.Request (requests.Nack p.0 p.1)) nack_request_of (evaluation_id then token)

abbrev pub refused_body : {S C : Type 0} → Format (Body S C)
refused_body = variant (λ p. bodies.Response (responses.Refused p.0 p.1)) refused_of (asked_request then reason)

abbrev pub register_body : {S C : Type 0} → Format (Body S C)
register_body = variant (λ p. bodies.Register p.0 p.1) register_of (name then size newest)

abbrev pub heartbeat_body : {S C : Type 0} → Format (Body S C)
heartbeat_body = variant (λ _. bodies.Heartbeat) heartbeat_of nothing

abbrev pub pull_body : {S C : Type 0} → Format (Body S C)
pull_body = variant (λ _. bodies.Pull) pull_of nothing

abbrev pub list_body : {S C : Type 0} → Format (Body S C)
list_body = variant (λ p. bodies.List p.0 p.1) list_of (index then listing)

abbrev pub report_body : {S C : Type 0} → Format (Body S C)
report_body = variant (λ items. bodies.Report items) report_message_of reports

abbrev pub told_body : {S C : Type 0} → Format (Body S C)
told_body = variant (λ p. bodies.Told p.0 p.1) told_message_of (client_request_kind then told_reason)
