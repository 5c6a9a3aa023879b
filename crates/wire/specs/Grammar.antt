-- The parts of a frame: version, kind, addresses and bodies, each by what it is made of.
use Rattle.std.specs.Prelude.{ℕ, ◌+◌, ◌-◌, ◌^◌, min, List, [], ◌∷◌, Option, Some, None}
use Rattle.fields_model.specs.Format.{Format, number, ◌then◌, depends, made, list, placed, variant, coded, kept, numbered}
use Rattle.fields_model.specs.Fields.{term, index, bool, actor}
use Rattle.fields_model.specs.Ids.{from_one}
use Rattle.rows.specs.Versions.{newest}
use Rattle.rows.specs.declared.actor.Actor.{Actor}
use Rattle.machine_model.specs.MachineSpec.{MachineSpec}
use Rattle.machine_model.specs.declared.entry.Entry.{Entry}
use Rattle.machine_model.specs.Entries.{entry}
use Rattle.wire.specs.declared.kind.Kind.{Kind}
use Rattle.wire.specs.declared.kind.Kind.TheVariants as kinds
use Rattle.wire.specs.declared.header.Header.{Header}
use Rattle.wire.specs.declared.vote.VoteRequest.{VoteRequest}
use Rattle.wire.specs.declared.vote.VoteReply.{VoteReply}
use Rattle.wire.specs.declared.append.AppendHead.{AppendHead}
use Rattle.wire.specs.declared.append.AppendReply.{AppendReply}
use Rattle.wire.specs.declared.install.InstallHead.{InstallHead}
use Rattle.wire.specs.declared.install.InstallReply.{InstallReply}
use Rattle.wire.specs.Appends.{Append}
use Rattle.wire.specs.Installs.{Install}
use Rattle.wire.specs.declared.body.Body.{Body}
use Rattle.wire.specs.declared.body.Body.TheVariants as bodies
use Rattle.wire.specs.Messages.{may_come_from, may_go}
use Rattle.wire.specs.Services.{take_body, delivered_body, submit_body, plan_result_body, finish_body, nack_body, refused_body, register_body, heartbeat_body, pull_body, list_body, report_body, told_body}

-- ---- the header

-- the version is the newest, and so is that of all texts that stand in a frame
abbrev pub version : Format (Unit {0})
version = coded (λ _. Some tt) (λ _. newest) (number 1 newest (newest + 1))

-- the number of a kind
abbrev pub number_of_kind : Kind → ℕ
number_of_kind kinds.VoteRequest = 1
number_of_kind kinds.VoteReply = 2
number_of_kind kinds.Append = 3
number_of_kind kinds.AppendReply = 4
number_of_kind kinds.Install = 5
number_of_kind kinds.InstallReply = 6
number_of_kind kinds.Take = 7
number_of_kind kinds.Delivered = 8
number_of_kind kinds.Submit = 9
number_of_kind kinds.PlanResult = 10
number_of_kind kinds.Finish = 11
number_of_kind kinds.Nack = 12
number_of_kind kinds.Refused = 13
number_of_kind kinds.Register = 14
number_of_kind kinds.Heartbeat = 15
number_of_kind kinds.Pull = 16
number_of_kind kinds.List = 17
number_of_kind kinds.Report = 18
number_of_kind kinds.Told = 19

abbrev pub all_kinds : List Kind
all_kinds =
    kinds.VoteRequest ∷ kinds.VoteReply ∷ kinds.Append ∷ kinds.AppendReply ∷ kinds.Install ∷ kinds.InstallReply
    ∷ kinds.Take ∷ kinds.Delivered ∷ kinds.Submit ∷ kinds.PlanResult ∷ kinds.Finish ∷ kinds.Nack ∷ kinds.Refused ∷ kinds.Register ∷ kinds.Heartbeat ∷ kinds.Pull
    ∷ kinds.List ∷ kinds.Report ∷ kinds.Told ∷ []

abbrev pub kind : Format Kind
kind = numbered all_kinds number_of_kind

-- who sends and who receives
abbrev pub addresses : Kind → Format (Actor × Actor)
addresses k = depends (kept (may_come_from k) actor) 1 (λ from. kept (may_go k from) actor)

abbrev pub header : Format Header
header = made
    (λ p. record { kind = p.1.0; from = p.1.1.0; to = p.1.1.1 })
    (λ h. (tt, (h.kind, (h.from, h.to))))
    (version then (depends kind 2 addresses))

-- ---- the bodies

abbrev pub vote_request : Format VoteRequest
vote_request = made
    (λ p. record { term = p.0; last_index = p.1.0; last_term = p.1.1 })
    (λ v. (v.term, (v.last_index, v.last_term)))
    (term then index then term)

abbrev pub vote_reply : Format VoteReply
vote_reply = made
    (λ p. record { term = p.0; asked = p.1.0; granted = p.1.1 })
    (λ v. (v.term, (v.asked, v.granted)))
    (term then term then bool)

abbrev pub append_head : Format AppendHead
append_head = made
    (λ p. record { term = p.0; prev_index = p.1.0; prev_term = p.1.1.0; commit = p.1.1.1 })
    (λ v. (v.term, (v.prev_index, (v.prev_term, v.commit))))
    (term then index then term then index)

-- at most 32 entries, and no more than there are places behind that one: the last place is below
-- 2^40
abbrev pub most_entries : ℕ → ℕ
most_entries prev_index = min 32 (2 ^ 40 - 1 - prev_index)

-- each entry is its term and its command
abbrev pub entries : {C : Type 0} → Format C → ℕ → Format (List (Entry C))
entries commands most = list 1 most (entry (placed commands))

abbrev pub append : {C : Type 0} → Format C → Format (Append C)
append commands = made
    (λ p. record { head = p.0; entries = p.1 })
    (λ v. (v.head, v.entries))
    (depends append_head (entries commands 32).most (λ h. entries commands (most_entries h.prev_index)))

abbrev pub append_reply : Format AppendReply
append_reply = made
    (λ p. record { term = p.0; asked = p.1.0; ok = p.1.1.0; at = p.1.1.1 })
    (λ v. (v.term, (v.asked, (v.ok, v.at))))
    (term then term then bool then index)

-- the index is that of an entry, from 1 on
abbrev pub install_head : Format InstallHead
install_head = made
    (λ p. record { term = p.0; index = p.1.0; index_term = p.1.1 })
    (λ v. (v.term, (v.index, v.index_term)))
    (term then from_one then term)

-- and then the state
abbrev pub install : {S : Type 0} → Format S → Format (Install S)
install states = made
    (λ p. record { head = p.0; state = p.1 })
    (λ v. (v.head, v.state))
    (install_head then placed states)

abbrev pub install_reply : Format InstallReply
install_reply = made
    (λ p. record { term = p.0; asked = p.1.0; at = p.1.1 })
    (λ v. (v.term, (v.asked, v.at)))
    (term then term then index)

abbrev pub vote_request_of : {S C : Type 0} → Body S C → Option VoteRequest
vote_request_of (bodies.VoteRequest v) = Some v
vote_request_of _ = None

abbrev pub vote_reply_of : {S C : Type 0} → Body S C → Option VoteReply
vote_reply_of (bodies.VoteReply v) = Some v
vote_reply_of _ = None

abbrev pub append_of : {S C : Type 0} → Body S C → Option (Append C)
append_of (bodies.Append v) = Some v
append_of _ = None

abbrev pub append_reply_of : {S C : Type 0} → Body S C → Option AppendReply
append_reply_of (bodies.AppendReply v) = Some v
append_reply_of _ = None

abbrev pub install_of : {S C : Type 0} → Body S C → Option (Install S)
install_of (bodies.Install v) = Some v
install_of _ = None

abbrev pub install_reply_of : {S C : Type 0} → Body S C → Option InstallReply
install_reply_of (bodies.InstallReply v) = Some v
install_reply_of _ = None

-- what stands behind the header of each kind
abbrev pub body : {S C : Type 0} → MachineSpec S C → Kind → Format (Body S C)
body spec kinds.VoteRequest = variant (λ v. bodies.VoteRequest v) vote_request_of vote_request
body spec kinds.VoteReply = variant (λ v. bodies.VoteReply v) vote_reply_of vote_reply
body spec kinds.Append = variant (λ v. bodies.Append v) append_of (append (spec.commands newest))
body spec kinds.AppendReply = variant (λ v. bodies.AppendReply v) append_reply_of append_reply
body spec kinds.Install = variant (λ v. bodies.Install v) install_of (install (spec.states newest))
body spec kinds.InstallReply = variant (λ v. bodies.InstallReply v) install_reply_of install_reply
body spec kinds.Take = take_body
body spec kinds.Delivered = delivered_body
body spec kinds.Submit = submit_body
body spec kinds.PlanResult = plan_result_body
body spec kinds.Finish = finish_body
body spec kinds.Nack = nack_body
body spec kinds.Refused = refused_body
body spec kinds.Register = register_body
body spec kinds.Heartbeat = heartbeat_body
body spec kinds.Pull = pull_body
body spec kinds.List = list_body
body spec kinds.Report = report_body
body spec kinds.Told = told_body
