-- The laws of a frame's header and of its bodies.
use Rattle.std.proofs.Common.{◌≡◌, ℕ, ◌+◌, ◌≤◌, Some, refl, arith}
use Rattle.std.proofs.Math.Nat.{le_refl, mul-le-mul_right}
use Rattle.fields_model.specs.Format.{Format, number, placed, Lawful, IsVariant}
use Rattle.fields_model.specs.Fields.{actor}
use Rattle.fields_model.proofs.FormatLaws.{number_lawful, then_lawful, depends_lawful, made_lawful, list_lawful, coded_lawful, kept_lawful, variant_lawful}
use Rattle.fields_model.proofs.PlacedLaws.{placed_lawful}
use Rattle.fields_model.proofs.FieldLaws.{actor_lawful, term_lawful}
use Rattle.fields_model.proofs.IdLaws.{from_one_lawful}
use Rattle.machine_model.specs.MachineSpec.{MachineSpec, LawfulMachine}
use Rattle.rows.specs.Versions.{newest}
use Rattle.wire.specs.declared.kind.Kind.{Kind}
use Rattle.wire.specs.declared.kind.Kind.TheVariants as kinds
use Rattle.wire.specs.declared.vote.VoteRequest.{VoteRequest}
use Rattle.wire.specs.declared.vote.VoteReply.{VoteReply}
use Rattle.machine_model.specs.Entries.{entry}
use Rattle.machine_model.proofs.EntryLaws.{entry_lawful}
use Rattle.wire.specs.declared.append.AppendReply.{AppendReply}
use Rattle.wire.specs.declared.install.InstallReply.{InstallReply}
use Rattle.wire.specs.Appends.{Append}
use Rattle.wire.specs.Installs.{Install}
use Rattle.wire.specs.declared.body.Body.{Body}
use Rattle.wire.specs.declared.body.Body.TheVariants as bodies
use Rattle.rows.specs.declared.worker.WorkerRequest.TheVariants as requests
use Rattle.rows.specs.declared.worker.WorkerResponse.TheVariants as responses
use Rattle.wire.specs.Messages.{kind_of, may_come_from, may_go}
use Rattle.wire.specs.Grammar.{version, kind, addresses, header, append_head, most_entries, entries, append, install_head, install, vote_request_of, vote_reply_of, append_of, append_reply_of, install_of, install_reply_of, body}
use Rattle.wire.proofs.ServiceLaws.{take_body_lawful, delivered_body_lawful, submit_body_lawful, plan_result_body_lawful, finish_body_lawful, nack_body_lawful, refused_body_lawful, register_body_lawful, heartbeat_body_lawful, pull_body_lawful, list_body_lawful, report_body_lawful, told_body_lawful}
use Rattle.wire.specs.Laws.GrammarLaws.{kind_lawful, vote_request_lawful, vote_reply_lawful, append_head_lawful, append_reply_lawful, install_reply_lawful}

-- ---- the header

newest_is : (a : ℕ) → (number 1 newest (newest + 1)).Fits a → newest ≡ a
newest_is a fits = omega arith

version_lawful : Lawful version
version_lawful = coded_lawful (λ _. Some tt) (λ _. newest) (number 1 newest (newest + 1)) (λ a b fits e. newest_is a fits) (number_lawful 1 newest (newest + 1) (omega arith) (omega arith))

addresses_lawful : (k : Kind) → Lawful (addresses k)
addresses_lawful k = depends_lawful _ _ _ (kept_lawful (may_come_from k) actor actor_lawful) (λ from fits. kept_lawful (may_go k from) actor actor_lawful) (λ from fits. le_refl 1)

pub header_lawful : Lawful header
header_lawful = made_lawful _ _ _ (λ _. refl) (λ _ _. refl) (then_lawful _ _ version_lawful (depends_lawful kind 2 addresses kind_lawful (λ k fits. addresses_lawful k) (λ k fits. omega arith)))

-- ---- the bodies

pub most_entries_is_few : (prev_index : ℕ) → most_entries prev_index ≤ 32
most_entries_is_few prev_index = omega arith

pub entries_lawful : {C : Type 0} (commands : Format C) (most : ℕ) → most ≤ 32 → Lawful commands → Lawful (entries commands most)
entries_lawful commands most few lc = list_lawful 1 most (entry (placed commands)) (omega arith) (omega arith) (entry_lawful (placed commands) (placed_lawful commands lc))

entries_are_short : {C : Type 0} (commands : Format C) (most : ℕ) → most ≤ 32 → (entries commands most).most ≤ (entries commands 32).most
entries_are_short commands most few = let more = mul-le-mul_right (entry (placed commands)).most few in omega arith

pub append_lawful : {C : Type 0} (commands : Format C) → Lawful commands → Lawful (append commands)
append_lawful commands lc = made_lawful _ _ _ (λ _. refl) (λ _ _. refl) (depends_lawful append_head _ (λ h. entries commands (most_entries h.prev_index)) append_head_lawful
    (λ h fits. entries_lawful commands (most_entries h.prev_index) (most_entries_is_few h.prev_index) lc)
    (λ h fits. entries_are_short commands (most_entries h.prev_index) (most_entries_is_few h.prev_index)))

pub install_head_lawful : Lawful install_head
install_head_lawful = made_lawful _ _ _ (λ _. refl) (λ _ _. refl) (then_lawful _ _ term_lawful (then_lawful _ _ from_one_lawful term_lawful))

install_lawful : {S : Type 0} (states : Format S) → Lawful states → Lawful (install states)
install_lawful states ls = made_lawful _ _ _ (λ _. refl) (λ _ _. refl) (then_lawful _ _ install_head_lawful (placed_lawful states ls))

is_vote_request : {S C : Type 0} → IsVariant {V = Body S C} (λ v. bodies.VoteRequest v) vote_request_of
is_vote_request {S} {C} = record { back = λ _. refl; there = λ v a e. there v a e } where
  there : (v : Body S C) (a : VoteRequest) → vote_request_of v ≡ Some a → bodies.VoteRequest a ≡ v
  there (bodies.VoteRequest _) a e = cc
  there _ a e = absurd cc

is_vote_reply : {S C : Type 0} → IsVariant {V = Body S C} (λ v. bodies.VoteReply v) vote_reply_of
is_vote_reply {S} {C} = record { back = λ _. refl; there = λ v a e. there v a e } where
  there : (v : Body S C) (a : VoteReply) → vote_reply_of v ≡ Some a → bodies.VoteReply a ≡ v
  there (bodies.VoteReply _) a e = cc
  there _ a e = absurd cc

is_append : {S C : Type 0} → IsVariant {V = Body S C} (λ v. bodies.Append v) append_of
is_append {S} {C} = record { back = λ _. refl; there = λ v a e. there v a e } where
  there : (v : Body S C) (a : Append C) → append_of v ≡ Some a → bodies.Append a ≡ v
  there (bodies.Append _) a e = cc
  there _ a e = absurd cc

is_append_reply : {S C : Type 0} → IsVariant {V = Body S C} (λ v. bodies.AppendReply v) append_reply_of
is_append_reply {S} {C} = record { back = λ _. refl; there = λ v a e. there v a e } where
  there : (v : Body S C) (a : AppendReply) → append_reply_of v ≡ Some a → bodies.AppendReply a ≡ v
  there (bodies.AppendReply _) a e = cc
  there _ a e = absurd cc

is_install : {S C : Type 0} → IsVariant {V = Body S C} (λ v. bodies.Install v) install_of
is_install {S} {C} = record { back = λ _. refl; there = λ v a e. there v a e } where
  there : (v : Body S C) (a : Install S) → install_of v ≡ Some a → bodies.Install a ≡ v
  there (bodies.Install _) a e = cc
  there _ a e = absurd cc

is_install_reply : {S C : Type 0} → IsVariant {V = Body S C} (λ v. bodies.InstallReply v) install_reply_of
is_install_reply {S} {C} = record { back = λ _. refl; there = λ v a e. there v a e } where
  there : (v : Body S C) (a : InstallReply) → install_reply_of v ≡ Some a → bodies.InstallReply a ≡ v
  there (bodies.InstallReply _) a e = cc
  there _ a e = absurd cc

pub body_lawful : {S C : Type 0} (spec : MachineSpec S C) → LawfulMachine spec → (k : Kind) → Lawful (body spec k)
body_lawful spec law kinds.VoteRequest = variant_lawful _ _ _ is_vote_request vote_request_lawful
body_lawful spec law kinds.VoteReply = variant_lawful _ _ _ is_vote_reply vote_reply_lawful
body_lawful spec law kinds.Append = variant_lawful _ _ _ is_append (append_lawful (spec.commands newest) (law.commands_lawful newest))
body_lawful spec law kinds.AppendReply = variant_lawful _ _ _ is_append_reply append_reply_lawful
body_lawful spec law kinds.Install = variant_lawful _ _ _ is_install (install_lawful (spec.states newest) (law.states_lawful newest))
body_lawful spec law kinds.InstallReply = variant_lawful _ _ _ is_install_reply install_reply_lawful
body_lawful spec law kinds.Take = take_body_lawful
body_lawful spec law kinds.Delivered = delivered_body_lawful
body_lawful spec law kinds.Submit = submit_body_lawful
body_lawful spec law kinds.PlanResult = plan_result_body_lawful
body_lawful spec law kinds.Finish = finish_body_lawful
body_lawful spec law kinds.Nack = nack_body_lawful
body_lawful spec law kinds.Refused = refused_body_lawful
body_lawful spec law kinds.Register = register_body_lawful
body_lawful spec law kinds.Heartbeat = heartbeat_body_lawful
body_lawful spec law kinds.Pull = pull_body_lawful
body_lawful spec law kinds.List = list_body_lawful
body_lawful spec law kinds.Report = report_body_lawful
body_lawful spec law kinds.Told = told_body_lawful

-- a body is one of its own kind alone
pub body_has_kind : {S C : Type 0} (spec : MachineSpec S C) (k : Kind) (b : Body S C) → (body spec k).Fits b → kind_of b ≡ k
body_has_kind spec kinds.VoteRequest (bodies.VoteRequest _) fits = refl
body_has_kind spec kinds.VoteReply (bodies.VoteReply _) fits = refl
body_has_kind spec kinds.Append (bodies.Append _) fits = refl
body_has_kind spec kinds.AppendReply (bodies.AppendReply _) fits = refl
body_has_kind spec kinds.Install (bodies.Install _) fits = refl
body_has_kind spec kinds.InstallReply (bodies.InstallReply _) fits = refl
body_has_kind spec kinds.Take (bodies.Request requests.Take) fits = refl
body_has_kind spec kinds.Delivered (bodies.Response (responses.Delivered _)) fits = refl
body_has_kind spec kinds.Submit (bodies.Request (requests.Submit _)) fits = refl
body_has_kind spec kinds.PlanResult (bodies.Response (responses.PlanResult _)) fits = refl
body_has_kind spec kinds.Finish (bodies.Request (requests.Finish _ _ _)) fits = refl
body_has_kind spec kinds.Nack (bodies.Request (requests.Nack _ _)) fits = refl
body_has_kind spec kinds.Refused (bodies.Response (responses.Refused _ _)) fits = refl
body_has_kind spec kinds.Register (bodies.Register _ _) fits = refl
body_has_kind spec kinds.Heartbeat bodies.Heartbeat fits = refl
body_has_kind spec kinds.Pull bodies.Pull fits = refl
body_has_kind spec kinds.List (bodies.List _ _) fits = refl
body_has_kind spec kinds.Report (bodies.Report _) fits = refl
body_has_kind spec kinds.Told (bodies.Told _ _) fits = refl
body_has_kind spec kinds.VoteRequest _ fits = absurd fits
body_has_kind spec kinds.VoteReply _ fits = absurd fits
body_has_kind spec kinds.Append _ fits = absurd fits
body_has_kind spec kinds.AppendReply _ fits = absurd fits
body_has_kind spec kinds.Install _ fits = absurd fits
body_has_kind spec kinds.InstallReply _ fits = absurd fits
body_has_kind spec kinds.Take _ fits = absurd fits
body_has_kind spec kinds.Delivered _ fits = absurd fits
body_has_kind spec kinds.Submit _ fits = absurd fits
body_has_kind spec kinds.PlanResult _ fits = absurd fits
body_has_kind spec kinds.Finish _ fits = absurd fits
body_has_kind spec kinds.Nack _ fits = absurd fits
body_has_kind spec kinds.Refused _ fits = absurd fits
body_has_kind spec kinds.Register _ fits = absurd fits
body_has_kind spec kinds.Heartbeat _ fits = absurd fits
body_has_kind spec kinds.Pull _ fits = absurd fits
body_has_kind spec kinds.List _ fits = absurd fits
body_has_kind spec kinds.Report _ fits = absurd fits
body_has_kind spec kinds.Told _ fits = absurd fits

-- no body is longer than a frame has room for, since no state is longer than 16,000,000 bytes, and no
-- command than 65,536
pub body_is_short : {S C : Type 0} (spec : MachineSpec S C) → LawfulMachine spec → (k : Kind) → (body spec k).most ≤ 16777208
body_is_short spec law kinds.VoteRequest = omega arith
body_is_short spec law kinds.VoteReply = omega arith
body_is_short spec law kinds.Append = omega (arith, law.commands_short newest)
body_is_short spec law kinds.AppendReply = omega arith
body_is_short spec law kinds.Install = omega (arith, law.states_short newest)
body_is_short spec law kinds.InstallReply = omega arith
body_is_short spec law kinds.Take = omega arith
body_is_short spec law kinds.Delivered = omega arith
body_is_short spec law kinds.Submit = omega arith
body_is_short spec law kinds.PlanResult = omega arith
body_is_short spec law kinds.Finish = omega arith
body_is_short spec law kinds.Nack = omega arith
body_is_short spec law kinds.Refused = omega arith
body_is_short spec law kinds.Register = omega arith
body_is_short spec law kinds.Heartbeat = omega arith
body_is_short spec law kinds.Pull = omega arith
body_is_short spec law kinds.List = omega arith
body_is_short spec law kinds.Report = omega arith
body_is_short spec law kinds.Told = omega arith
