-- The laws of the bodies that workers, the leader's desk and agents send.
use Rattle.std.proofs.Common.{◌≡◌, ℕ, List, Option, Some, ap, sym, refl}
use Rattle.fields_model.specs.Format.{Lawful}
use Rattle.fields_model.proofs.FormatLaws.{nothing_lawful, then_lawful, variant_lawful}
use Rattle.fields_model.proofs.FieldLaws.{index_lawful}
use Rattle.fields_model.proofs.OptionLaws.{option_lawful}
use Rattle.fields_model.proofs.IdLaws.{name_lawful, size_lawful, evaluation_id_lawful, token_lawful, delivery_lawful}
use Rattle.fields_model.proofs.CommandLaws.{plan_lawful, reports_lawful}
use Rattle.fields_model.proofs.ServiceLaws.{eval_outcome_lawful, plan_result_lawful, asked_request_lawful, reason_lawful, client_request_kind_lawful, told_reason_lawful, listing_lawful}
use Rattle.rows.specs.Versions.{newest}
use Rattle.rows.specs.declared.evaluation.EvalId.{EvalId}
use Rattle.rows.specs.declared.token.Token.{Token}
use Rattle.rows.specs.declared.token.Delivery.{Delivery}
use Rattle.rows.specs.declared.size.Size.{Size}
use Rattle.rows.specs.declared.plan.Plan.{Plan}
use Rattle.rows.specs.declared.reason.Reason.{Reason}
use Rattle.rows.specs.declared.listing.ListedAllocation.{ListedAllocation}
use Rattle.rows.specs.declared.command.Report.{Report}
use Rattle.rows.specs.declared.worker.EvalOutcome.{EvalOutcome}
use Rattle.rows.specs.declared.worker.AskedRequest.{AskedRequest}
use Rattle.rows.specs.declared.worker.PlanResult.{PlanResult}
use Rattle.rows.specs.declared.worker.ClientRequestKind.{ClientRequestKind}
use Rattle.rows.specs.declared.worker.WorkerRequest.TheVariants as requests
use Rattle.rows.specs.declared.worker.WorkerResponse.TheVariants as responses
use Rattle.wire.specs.declared.body.Body.{Body}
use Rattle.wire.specs.declared.body.Body.TheVariants as bodies
use Rattle.wire.specs.Services.{take_request_of, submit_request_of, finish_request_of, nack_request_of, delivered_of, plan_result_of, refused_of, register_of, heartbeat_of, pull_of, list_of, report_message_of, told_message_of, take_body, delivered_body, submit_body, plan_result_body, finish_body, nack_body, refused_body, register_body, heartbeat_body, pull_body, list_body, report_body, told_body}

-- one option has one value
some_is : {A : Type 0} (x y : A) → Some x ≡ Some y → x ≡ y
some_is x y e = cc

module _ {S C : Type 0} where
  take_there : (v : Body S C) (a : Unit {0}) → take_request_of v ≡ Some a → bodies.Request requests.Take ≡ v
  take_there (bodies.Request requests.Take) a e = refl
  take_there _ a e = absurd cc

  pub take_body_lawful : Lawful (take_body {S = S} {C = C})
  take_body_lawful = variant_lawful _ _ _ (record { back = λ _. refl; there = take_there }) nothing_lawful

  delivered_there : (v : Body S C) (a : Option Delivery) → delivered_of v ≡ Some a → bodies.Response (responses.Delivered a) ≡ v
  delivered_there (bodies.Response (responses.Delivered _)) a e = cc
  delivered_there _ a e = absurd cc

  pub delivered_body_lawful : Lawful (delivered_body {S = S} {C = C})
  delivered_body_lawful = variant_lawful _ _ _ (record { back = λ _. refl; there = delivered_there }) (option_lawful _ delivery_lawful)

  submit_there : (v : Body S C) (a : Plan) → submit_request_of v ≡ Some a → bodies.Request (requests.Submit a) ≡ v
  submit_there (bodies.Request (requests.Submit _)) a e = cc
  submit_there _ a e = absurd cc

  pub submit_body_lawful : Lawful (submit_body {S = S} {C = C})
  submit_body_lawful = variant_lawful _ _ _ (record { back = λ _. refl; there = submit_there }) plan_lawful

  plan_result_there : (v : Body S C) (a : PlanResult) → plan_result_of v ≡ Some a → bodies.Response (responses.PlanResult a) ≡ v
  plan_result_there (bodies.Response (responses.PlanResult _)) a e = cc
  plan_result_there _ a e = absurd cc

  pub plan_result_body_lawful : Lawful (plan_result_body {S = S} {C = C})
  plan_result_body_lawful = variant_lawful _ _ _ (record { back = λ _. refl; there = plan_result_there }) plan_result_lawful

  finish_there : (v : Body S C) (a : EvalId × (Token × EvalOutcome)) → finish_request_of v ≡ Some a → bodies.Request (requests.Finish a.0 a.1.0 a.1.1) ≡ v
  finish_there (bodies.Request (requests.Finish x y z)) a e = ap (λ (p : EvalId × (Token × EvalOutcome)). bodies.Request (requests.Finish p.0 p.1.0 p.1.1)) (sym (some_is (x, (y, z)) a e))
  finish_there _ a e = absurd cc

  pub finish_body_lawful : Lawful (finish_body {S = S} {C = C})
  finish_body_lawful = variant_lawful _ _ _ (record { back = λ _. refl; there = finish_there }) (then_lawful _ _ evaluation_id_lawful (then_lawful _ _ token_lawful eval_outcome_lawful))

  nack_there : (v : Body S C) (a : EvalId × Token) → nack_request_of v ≡ Some a → bodies.Request (requests.Nack a.0 a.1) ≡ v
  nack_there (bodies.Request (requests.Nack x y)) a e = ap (λ (p : EvalId × Token). bodies.Request (requests.Nack p.0 p.1)) (sym (some_is (x, y) a e))
  nack_there _ a e = absurd cc

  pub nack_body_lawful : Lawful (nack_body {S = S} {C = C})
  nack_body_lawful = variant_lawful _ _ _ (record { back = λ _. refl; there = nack_there }) (then_lawful _ _ evaluation_id_lawful token_lawful)

  refused_there : (v : Body S C) (a : AskedRequest × Reason) → refused_of v ≡ Some a → bodies.Response (responses.Refused a.0 a.1) ≡ v
  refused_there (bodies.Response (responses.Refused x y)) a e = ap (λ (p : AskedRequest × Reason). bodies.Response (responses.Refused p.0 p.1)) (sym (some_is (x, y) a e))
  refused_there _ a e = absurd cc

  pub refused_body_lawful : Lawful (refused_body {S = S} {C = C})
  refused_body_lawful = variant_lawful _ _ _ (record { back = λ _. refl; there = refused_there }) (then_lawful _ _ asked_request_lawful reason_lawful)

  register_there : (v : Body S C) (a : List ℕ × Size) → register_of v ≡ Some a → bodies.Register a.0 a.1 ≡ v
  register_there (bodies.Register x y) a e = ap (λ (p : List ℕ × Size). bodies.Register p.0 p.1) (sym (some_is (x, y) a e))
  register_there _ a e = absurd cc

  pub register_body_lawful : Lawful (register_body {S = S} {C = C})
  register_body_lawful = variant_lawful _ _ _ (record { back = λ _. refl; there = register_there }) (then_lawful _ _ name_lawful (size_lawful newest))

  heartbeat_there : (v : Body S C) (a : Unit {0}) → heartbeat_of v ≡ Some a → bodies.Heartbeat ≡ v
  heartbeat_there bodies.Heartbeat a e = refl
  heartbeat_there _ a e = absurd cc

  pub heartbeat_body_lawful : Lawful (heartbeat_body {S = S} {C = C})
  heartbeat_body_lawful = variant_lawful _ _ _ (record { back = λ _. refl; there = heartbeat_there }) nothing_lawful

  pull_there : (v : Body S C) (a : Unit {0}) → pull_of v ≡ Some a → bodies.Pull ≡ v
  pull_there bodies.Pull a e = refl
  pull_there _ a e = absurd cc

  pub pull_body_lawful : Lawful (pull_body {S = S} {C = C})
  pull_body_lawful = variant_lawful _ _ _ (record { back = λ _. refl; there = pull_there }) nothing_lawful

  list_there : (v : Body S C) (a : ℕ × List ListedAllocation) → list_of v ≡ Some a → bodies.List a.0 a.1 ≡ v
  list_there (bodies.List x y) a e = ap (λ (p : ℕ × List ListedAllocation). bodies.List p.0 p.1) (sym (some_is (x, y) a e))
  list_there _ a e = absurd cc

  pub list_body_lawful : Lawful (list_body {S = S} {C = C})
  list_body_lawful = variant_lawful _ _ _ (record { back = λ _. refl; there = list_there }) (then_lawful _ _ index_lawful listing_lawful)

  report_there : (v : Body S C) (a : List Report) → report_message_of v ≡ Some a → bodies.Report a ≡ v
  report_there (bodies.Report _) a e = cc
  report_there _ a e = absurd cc

  pub report_body_lawful : Lawful (report_body {S = S} {C = C})
  report_body_lawful = variant_lawful _ _ _ (record { back = λ _. refl; there = report_there }) reports_lawful

  told_there : (v : Body S C) (a : ClientRequestKind × Option Reason) → told_message_of v ≡ Some a → bodies.Told a.0 a.1 ≡ v
  told_there (bodies.Told x y) a e = ap (λ (p : ClientRequestKind × Option Reason). bodies.Told p.0 p.1) (sym (some_is (x, y) a e))
  told_there _ a e = absurd cc

  pub told_body_lawful : Lawful (told_body {S = S} {C = C})
  told_body_lawful = variant_lawful _ _ _ (record { back = λ _. refl; there = told_there }) (then_lawful _ _ client_request_kind_lawful told_reason_lawful)
