-- The laws of what workers and the leader's desk tell each other, and of what an agent is told and
-- shown.
use Rattle.std.proofs.Common.{◌≡◌, ℕ, zero, suc, ◌+◌, ◌^◌, ◌≤◌, ◌<◌, Bool, true, false, nat_eq, [], ◌∷◌, Option, Some, None, refl, ap, sym, arith, if◌then◌else◌}
use Rattle.rows.specs.Ids.{node_rises}
use Rattle.rows.specs.Listings.{listed_rises}
use Rattle.rows.specs.Versions.{newest}
use Rattle.rows.specs.declared.evaluation.EvalId.{EvalId}
use Rattle.rows.specs.declared.token.Token.{Token}
use Rattle.rows.specs.declared.reason.Reason.{Reason}
use Rattle.rows.specs.declared.reason.Reason.TheVariants as reasons
use Rattle.rows.specs.declared.worker.EvalOutcome.{EvalOutcome}
use Rattle.rows.specs.declared.worker.EvalOutcome.TheVariants as outcomes
use Rattle.rows.specs.declared.worker.AskedRequest.{AskedRequest}
use Rattle.rows.specs.declared.worker.AskedRequest.TheVariants as asked
use Rattle.rows.specs.declared.worker.ClientRequestKind.TheVariants as client_requests
use Rattle.rows.specs.declared.listing.LiveState.TheVariants as live_states
use Rattle.fields_model.specs.Format.{number, Lawful, IsRuled}
use Rattle.fields_model.specs.Ids.{node_id}
use Rattle.fields_model.proofs.FormatLaws.{number_lawful, made_lawful, then_lawful, depends_lawful, coded_lawful, kept_lawful, numbered_lawful, enumerated_lawful, ruled_list_lawful, kept_is_ruled, keyed_is_ruled, no_choice, variant_choice, choice_lawful}
use Rattle.fields_model.proofs.FieldLaws.{byte_lawful, index_lawful}
use Rattle.fields_model.proofs.IdLaws.{size_lawful, node_id_lawful, evaluation_id_lawful, allocation_id_lawful, token_lawful}
use Rattle.fields_model.proofs.CommandLaws.{none_else}
use Rattle.fields_model.specs.Services.{outcome_limit, eval_outcome_of, outcome_parts, eval_outcome, place_count, node_id_behind, rising_nodes, plan_result, leader_of, leader_number, leader_limit, told_leader, told_of, told_parts, told_from, told_reason, reason, asked_number, no_pair, a_pair, asked_take_of, asked_submit_of, asked_finish_of, asked_nack_of, asked_request, client_request_kind, live_state, listed_allocation, listed_allocation_behind, listing}

-- ---- what became of an evaluation, and of a plan

outcome_again : (o : EvalOutcome) → eval_outcome_of (outcome_parts o) ≡ o
outcome_again (outcomes.Blocked snapshot) = refl
outcome_again outcomes.Complete = refl
outcome_again outcomes.Failed = refl

outcome_parts_again : (status n : ℕ) → 1 ≤ status → status < 4 → n < outcome_limit status → outcome_parts (eval_outcome_of (status, n)) ≡ (status, n)
outcome_parts_again (suc zero) n low high lt = refl
outcome_parts_again (suc (suc zero)) n low high lt = ap (λ (k : ℕ). (2, k)) (none_else n lt)
outcome_parts_again (suc (suc (suc zero))) n low high lt = ap (λ (k : ℕ). (3, k)) (none_else n lt)
outcome_parts_again _ n low high lt = absurd (omega (arith, low, high))

outcomes_held : (b : Bool) → (if b then 2 ^ 40 else 1) ≤ 256 ^ 8
outcomes_held true = omega arith
outcomes_held false = omega arith

pub eval_outcome_lawful : Lawful eval_outcome
eval_outcome_lawful = made_lawful _ _ _ outcome_again (λ p fits. outcome_parts_again p.0 p.1 fits.0.0 fits.0.1 fits.1.1)
    (depends_lawful (number 1 1 4) 8 _ (number_lawful 1 1 4 (omega arith) (omega arith)) (λ s fits. number_lawful 8 0 (outcome_limit s) (omega arith) (outcomes_held (nat_eq s 1))) (λ s fits. omega arith))

pub place_count_lawful : Lawful place_count
place_count_lawful = number_lawful 1 0 65 (omega arith) (omega arith)

pub node_id_is_ruled : IsRuled node_rises node_id node_id_behind
node_id_is_ruled = kept_is_ruled _ _ node_id_lawful

pub rising_nodes_lawful : Lawful rising_nodes
rising_nodes_lawful = ruled_list_lawful 1 255 _ _ _ (omega arith) (omega arith) node_id_lawful node_id_is_ruled

pub plan_result_lawful : Lawful plan_result
plan_result_lawful = made_lawful _ _ _ (λ _. refl) (λ _ _. refl) (then_lawful _ _ evaluation_id_lawful (then_lawful _ _ token_lawful (then_lawful _ _ index_lawful (then_lawful _ _ place_count_lawful rising_nodes_lawful))))

-- ---- refusals

leader_again : (o : Option ℕ) → leader_of (leader_number o) ≡ o
leader_again None = refl
leader_again (Some place) = let next : place + 1 ≡ suc place = omega arith in ap leader_of next

leader_number_again : (n : ℕ) → leader_number (leader_of n) ≡ n
leader_number_again zero = refl
leader_number_again (suc place) = omega arith

leaders_held : (b : Bool) → (if b then 6 else 1) ≤ 256 ^ 1
leaders_held true = omega arith
leaders_held false = omega arith

told_leader_lawful : (refusal : ℕ) → Lawful (told_leader refusal)
told_leader_lawful refusal = made_lawful _ _ _ leader_again (λ n fits. leader_number_again n) (number_lawful 1 0 (leader_limit refusal) (omega arith) (leaders_held (nat_eq refusal 2)))

reason_again : (r : Reason) → told_of (told_parts (Some r)) ≡ Some r
reason_again reasons.NoMemory = refl
reason_again (reasons.NotLeader leader) = refl
reason_again reasons.NotOpen = refl
reason_again reasons.NotOutstanding = refl
reason_again reasons.TokenDiffers = refl
reason_again reasons.SnapshotTooOld = refl
reason_again reasons.JobChanged = refl
reason_again reasons.UnknownJob = refl
reason_again reasons.UnknownNode = refl
reason_again reasons.NodeDiffers = refl
reason_again reasons.BadName = refl
reason_again reasons.OutOfRange = refl
reason_again reasons.TableFull = refl
reason_again reasons.Exhausted = refl
reason_again reasons.Frame = refl
reason_again reasons.Down = refl
reason_again reasons.QueueFull = refl
reason_again reasons.JobStopped = refl
reason_again reasons.StaleExpiry = refl
reason_again reasons.NotDraining = refl
reason_again reasons.UnknownAlloc = refl

told_again : (o : Option Reason) → told_of (told_parts o) ≡ o
told_again None = refl
told_again (Some r) = reason_again r

-- one refusal, and the leader that it tells
abbrev pair_of : ℕ → Option ℕ → ℕ × Option ℕ
pair_of refusal l = (refusal, l)

-- a refusal that tells no leader
alone : (refusal : ℕ) (l : Option ℕ) → leader_number l < 1 → pair_of refusal None ≡ pair_of refusal l
alone refusal None lt = refl
alone refusal (Some place) lt = absurd (omega arith)

pattern abbrev five : ℕ → ℕ
five n = suc (suc (suc (suc (suc n))))

told_parts_again : (refusal : ℕ) (l : Option ℕ) → refusal < 22 → leader_number l < leader_limit refusal → told_parts (told_of (refusal, l)) ≡ (refusal, l)
told_parts_again zero l high lt = alone 0 l lt
told_parts_again (suc zero) l high lt = alone 1 l lt
told_parts_again (suc (suc zero)) l high lt = refl
told_parts_again (suc (suc (suc zero))) l high lt = alone 3 l lt
told_parts_again (suc (suc (suc (suc zero)))) l high lt = alone 4 l lt
told_parts_again (five zero) l high lt = alone 5 l lt
told_parts_again (five (suc zero)) l high lt = alone 6 l lt
told_parts_again (five (suc (suc zero))) l high lt = alone 7 l lt
told_parts_again (five (suc (suc (suc zero)))) l high lt = alone 8 l lt
told_parts_again (five (suc (suc (suc (suc zero))))) l high lt = alone 9 l lt
told_parts_again (five (five zero)) l high lt = alone 10 l lt
told_parts_again (five (five (suc zero))) l high lt = alone 11 l lt
told_parts_again (five (five (suc (suc zero)))) l high lt = alone 12 l lt
told_parts_again (five (five (suc (suc (suc zero))))) l high lt = alone 13 l lt
told_parts_again (five (five (suc (suc (suc (suc zero)))))) l high lt = alone 14 l lt
told_parts_again (five (five (five zero))) l high lt = alone 15 l lt
told_parts_again (five (five (five (suc zero)))) l high lt = alone 16 l lt
told_parts_again (five (five (five (suc (suc zero))))) l high lt = alone 17 l lt
told_parts_again (five (five (five (suc (suc (suc zero)))))) l high lt = alone 18 l lt
told_parts_again (five (five (five (suc (suc (suc (suc zero))))))) l high lt = alone 19 l lt
told_parts_again (five (five (five (five zero)))) l high lt = alone 20 l lt
told_parts_again (five (five (five (five (suc zero))))) l high lt = alone 21 l lt
told_parts_again _ l high lt = absurd (omega (arith, high))

pub told_from_lawful : (least : ℕ) → Lawful (told_from least)
told_from_lawful least = made_lawful _ _ _ told_again (λ p fits. told_parts_again p.0 p.1 fits.0.1 fits.1.1)
    (depends_lawful (number 1 least 22) 1 told_leader (number_lawful 1 least 22 (omega arith) (omega arith)) (λ n fits. told_leader_lawful n) (λ n fits. omega arith))

pub told_reason_lawful : Lawful told_reason
told_reason_lawful = told_from_lawful 0

pub reason_lawful : Lawful reason
reason_lawful = coded_lawful (λ o. o) (λ r. Some r) (told_from 1) (λ a b fits e. sym e) (told_from_lawful 1)

-- ---- which request is answered

no_pair_lawful : Lawful no_pair
no_pair_lawful = made_lawful _ _ _ (λ _. refl) (λ n fits. none_else n fits.1) (number_lawful 1 0 1 (omega arith) (omega arith))

abbrev flagged : EvalId × Token → ℕ → ℕ × (EvalId × Token)
flagged pair flag = (flag, pair)

one_flag : (flag : ℕ) (pair : EvalId × Token) → (number 1 1 2).Fits flag → flagged pair 1 ≡ flagged pair flag
one_flag flag pair fits = let is : 1 ≡ flag = omega (arith, fits.0, fits.1) in ap (flagged pair) is

a_pair_lawful : Lawful a_pair
a_pair_lawful = made_lawful _ _ _ (λ _. refl) (λ p fits. one_flag p.0 p.1 fits.0) (then_lawful _ _ (number_lawful 1 1 2 (omega arith) (omega arith)) (then_lawful _ _ evaluation_id_lawful token_lawful))

take_there : (v : AskedRequest) (a : Unit {0}) → asked_take_of v ≡ Some a → asked.Take ≡ v
take_there asked.Take a e = refl
take_there _ a e = absurd cc

pair_is : (p q : EvalId × Token) → Some p ≡ Some q → p ≡ q
pair_is p q e = cc

submit_there : (v : AskedRequest) (a : EvalId × Token) → asked_submit_of v ≡ Some a → asked.Submit a.0 a.1 ≡ v
submit_there (asked.Submit x y) a e = ap (λ (p : EvalId × Token). asked.Submit p.0 p.1) (sym (pair_is (x, y) a e))
submit_there _ a e = absurd cc

finish_there : (v : AskedRequest) (a : EvalId × Token) → asked_finish_of v ≡ Some a → asked.Finish a.0 a.1 ≡ v
finish_there (asked.Finish x y) a e = ap (λ (p : EvalId × Token). asked.Finish p.0 p.1) (sym (pair_is (x, y) a e))
finish_there _ a e = absurd cc

nack_there : (v : AskedRequest) (a : EvalId × Token) → asked_nack_of v ≡ Some a → asked.Nack a.0 a.1 ≡ v
nack_there (asked.Nack x y) a e = ap (λ (p : EvalId × Token). asked.Nack p.0 p.1) (sym (pair_is (x, y) a e))
nack_there _ a e = absurd cc

pub asked_request_lawful : Lawful asked_request
asked_request_lawful = choice_lawful asked_number _ _ (kept_lawful _ _ byte_lawful)
    (variant_choice asked_number 7 _ _ _ _ (record { back = λ _. refl; there = take_there }) (λ _. refl) no_pair_lawful
    (variant_choice asked_number 9 _ _ _ _ (record { back = λ _. refl; there = submit_there }) (λ _. refl) a_pair_lawful
    (variant_choice asked_number 11 _ _ _ _ (record { back = λ _. refl; there = finish_there }) (λ _. refl) a_pair_lawful
    (variant_choice asked_number 12 _ _ _ _ (record { back = λ _. refl; there = nack_there }) (λ _. refl) a_pair_lawful
    (no_choice asked_number)))))

pub client_request_kind_lawful : Lawful client_request_kind
client_request_kind_lawful = numbered_lawful (client_requests.Register ∷ client_requests.Heartbeat ∷ client_requests.Report ∷ []) _

-- ---- the live allocations of a node

pub live_state_lawful : Lawful live_state
live_state_lawful = enumerated_lawful 0 (live_states.Pending ∷ live_states.Running ∷ live_states.Unknown ∷ []) _ refl

pub listed_allocation_lawful : Lawful listed_allocation
listed_allocation_lawful = made_lawful _ _ _ (λ _. refl) (λ _ _. refl) (then_lawful _ _ allocation_id_lawful (then_lawful _ _ (size_lawful newest) live_state_lawful))

pub listed_allocation_is_ruled : IsRuled listed_rises listed_allocation listed_allocation_behind
listed_allocation_is_ruled = keyed_is_ruled _ _ _ _ _ (λ _. refl) (λ _. refl) allocation_id_lawful (then_lawful _ _ (size_lawful newest) live_state_lawful)

pub listing_lawful : Lawful listing
listing_lawful = ruled_list_lawful 4 65536 _ _ _ (omega arith) (omega arith) listed_allocation_lawful listed_allocation_is_ruled
