-- The second byte of a frame says of what kind its message is: whether it is one by which servers
-- keep one log, and whether it takes memory.
use Rattle.std.proofs.Common.{◌≡◌, ℕ, ◌+◌, ◌^◌, Bool, true, false, cond, eqb, leb, ◌&&◌, List, ◌++◌, length, drop, Result, Ok, Err, refl, ap, subst, ◌∙◌, append_assoc, arith}
use Rattle.std.specs.Prelude.{IfErr, IfOk}
use Rattle.rows.specs.Versions.{newest}
use Rattle.rows.specs.declared.refusal.Refusal.{Refusal}
use Rattle.rows.specs.declared.refusal.Refusal.TheVariants as refusals
use Rattle.rows.specs.declared.actor.Actor.{Actor}
use Rattle.rows.specs.declared.actor.Actor.TheVariants.{Server, Client}
use Rattle.fields_model.specs.Format.{Reading, ◌>>=◌, Answers, Gives, Refuses, IsBytes, spelled, number_at}
use Rattle.fields_model.specs.Fields.{actor}
use Rattle.fields_model.proofs.FormatLaws.{bind_ok, guard_in, past, length-spelled, number_lawful}
use Rattle.machine_model.specs.MachineSpec.{MachineSpec, LawfulMachine}
use Rattle.wire.specs.declared.kind.Kind.{Kind}
use Rattle.wire.specs.declared.kind.Kind.TheVariants as kinds
use Rattle.wire.specs.declared.header.Header.{Header}
use Rattle.wire.specs.declared.body.Body.{Body}
use Rattle.wire.specs.declared.log_message.LogBody.{LogBody}
use Rattle.wire.specs.declared.log_message.LogBody.TheVariants as logs
use Rattle.wire.specs.Messages.{Message, kind_of, is_of_log, is_server, is_another_server, may_go, log_body}
use Rattle.wire.specs.Grammar.{kind, header, body}
use Rattle.wire.specs.Frames.{frame_limit, size_at, header_of, agrees, is_log_frame, message_at, reads_one_of}
use Rattle.wire.specs.Inner.Readings.{finished}
use Rattle.wire.specs.Laws.GrammarLaws.{kind_lawful}
use Rattle.wire.proofs.GrammarLaws.{header_lawful}
use Rattle.wire.proofs.Framing.{header_length, message_found}

header_parts : (h : Header) (rest : List ℕ) → header.text h ++ rest ≡ spelled 1 newest ++ (kind.text h.kind ++ ((actor.text h.from ++ actor.text h.to) ++ rest))
header_parts h rest = simp append_assoc

kind_named : (kinds : Kind → Bool) (bytes : List ℕ) (h : Header) (rest : List ℕ) → header.Fits h → bytes ≡ header.text h ++ rest → kinds h.kind ≡ reads_one_of kinds (kind.read bytes 1)
kind_named kinds bytes h rest fits text =
    let behind = (actor.text h.from ++ actor.text h.to) ++ rest in
    let here = past 0 bytes (spelled 1 newest) (kind.text h.kind ++ behind) (text ∙ header_parts h rest) in
    let second : drop 1 bytes ≡ kind.text h.kind ++ behind = subst (λ (n : ℕ). drop (0 + n) bytes ≡ kind.text h.kind ++ behind) (length-spelled 1 newest) here in
    let read = kind_lawful.only bytes 1 h.kind behind fits.1.0 second in
    rw read refl

pub header_named : (kinds : Kind → Bool) (bytes : List ℕ) (h : Header) (at : ℕ) → IsBytes bytes → header.read bytes 0 ≡ Ok (h, at) → kinds h.kind ≡ reads_one_of kinds (kind.read bytes 1)
header_named kinds bytes h at fits read =
    let stands = header_lawful.found bytes 0 h at fits read in
    kind_named kinds bytes h (drop at bytes) stands.fits stands.here

pub named_of : {S C : Type 0} (spec : MachineSpec S C) → LawfulMachine spec → (bytes : List ℕ) (r : Result (Message S C) Refusal) → IsBytes bytes → Gives r (message_at spec bytes) → IfOk r (λ m. is_of_log (kind_of m.body) ≡ is_log_frame bytes)
named_of spec law bytes (Ok m) fits given =
    let found = message_found spec law bytes m fits given in
    kind_named is_of_log bytes (header_of m) _ found.0.header_fits found.1
named_of spec law bytes (Err e) fits given = tt

-- ---- when memory may be lacking

-- what lacks memory for a reason, if at all, gives
pub gives_of : {A : Type 0} (MayEndOutOfMemory : Type 0) (r : Result A Refusal) (reading : Result A ℕ) → Answers MayEndOutOfMemory r reading → Gives r reading
gives_of MayEndOutOfMemory (Ok x) reading given = given
gives_of MayEndOutOfMemory (Err refusals.NoMemory) reading given = tt
gives_of MayEndOutOfMemory (Err (refusals.Frame place)) reading given = given
gives_of MayEndOutOfMemory (Err _) reading given = absurd given

-- and where it lacks memory, it has the reason
pub reason_of : {A : Type 0} (MayEndOutOfMemory : Type 0) (r : Result A Refusal) (reading : Result A ℕ) → Answers MayEndOutOfMemory r reading → IfErr r (λ e. e ≡ refusals.NoMemory → MayEndOutOfMemory)
reason_of MayEndOutOfMemory (Ok x) reading given = tt
reason_of MayEndOutOfMemory (Err e) reading given = λ is. subst (λ cause. Refuses MayEndOutOfMemory cause reading) is given

-- where each fault of one reading is one of another, so is each refusal
pub refuses_along : {A B : Type 0} (MayEndOutOfMemory : Type 0) (cause : Refusal) (x : Result A ℕ) (y : Result B ℕ) → ((p : ℕ) → x ≡ Err p → y ≡ Err p) → Refuses MayEndOutOfMemory cause x → Refuses MayEndOutOfMemory cause y
refuses_along MayEndOutOfMemory refusals.NoMemory x y f given = given
refuses_along MayEndOutOfMemory (refusals.Frame place) x y f given = f place given
refuses_along MayEndOutOfMemory _ x y f given = absurd given

-- ---- the fault of a body is that of the frame

body_place : (bytes : List ℕ) (h : Header) (next size at : ℕ) → IsBytes bytes → header.read bytes 0 ≡ Ok (h, next) → size_at bytes next ≡ Ok (size, at) → at ≡ 8
body_place bytes h next size at fits head sized =
    let test : ℕ → Bool = λ n. eqb (n + 8) (length bytes) && leb (length bytes) frame_limit in
    let n = bind_ok (number_at 4 0 (2 ^ 32) bytes next) (λ n. cond (test n.0) (Ok n) (Err next)) (size, at) sized in
    let same = (guard_in (test n.0.0) next n.0 (size, at) n.2).1 in
    let four = header_length h in
    let four_more = length-spelled 4 n.0.0 in
    let end : n.0.1 ≡ at = ap (λ (p : ℕ × ℕ). p.1) same in
    omega (arith, (header_lawful.found bytes 0 h next fits head).after, ((number_lawful 4 0 (2 ^ 32) (omega arith) (omega arith)).found bytes next n.0.0 n.0.1 fits n.1).after)

abbrev made : {S C : Type 0} → Header → Body S C → Message S C
made h b = record { from = h.from; to = h.to; body = b }

test_fault : {A B : Type 0} (u : Bool) (x : A) (y : B) (k j p : ℕ) → k ≡ j → cond u (Ok x) (Err k) ≡ Err p → cond u (Ok y) (Err j) ≡ Err p
test_fault true x y k j p same e = absurd cc
test_fault false x y k j p same e = let is : k ≡ p = cc in cc

message_fault : {S C : Type 0} (spec : MachineSpec S C) (bytes : List ℕ) (h : Header) (at p : ℕ) (r : Reading (Body S C)) → at ≡ 8 → finished spec bytes at r ≡ Err p →
    (r >>= (λ b. cond (eqb b.1 (length bytes)) (Ok (made h b.0)) (Err b.1)) >>= λ m. cond (agrees spec m.body) (Ok m) (Err 32)) ≡ Err p
message_fault spec bytes h at p (Err q) place fault = let is : q ≡ p = cc in cc
message_fault spec bytes h at p (Ok b) place fault =
    elim (eqb b.1 (length bytes)) as (λ t. (cond t (Ok b.0) (Err b.1) >>= λ x. cond (agrees spec x) (Ok x) (Err (at + 24))) ≡ Err p → (cond t (Ok (made h b.0)) (Err b.1) >>= λ m. cond (agrees spec m.body) (Ok m) (Err 32)) ≡ Err p) [
      | true ↦ test_fault (agrees spec b.0) b.0 (made h b.0) (at + 24) 32 p (omega (arith, place))
      | false ↦ λ e. let is : b.1 ≡ p = cc in cc
    ] fault

pub fault_of_body : {S C : Type 0} (spec : MachineSpec S C) (bytes : List ℕ) (h : Header) (next size at p : ℕ) → IsBytes bytes → header.read bytes 0 ≡ Ok (h, next) → size_at bytes next ≡ Ok (size, at)
    → finished spec bytes at ((body spec h.kind).read bytes at) ≡ Err p → message_at spec bytes ≡ Err p
unfolding message_at
fault_of_body spec bytes h next size at p fits head sized fault =
    rw (head, sized) (message_fault spec bytes h at p ((body spec h.kind).read bytes at) (body_place bytes h next size at fits head sized) fault)

-- ---- between whom such messages go

pub between_servers : (k : Kind) (from to : Actor) → is_of_log k ≡ true → may_go k from to ≡ true → is_another_server from to ≡ true
between_servers kinds.VoteRequest from to log goes = goes
between_servers kinds.VoteReply from to log goes = goes
between_servers kinds.Append from to log goes = goes
between_servers kinds.AppendReply from to log goes = goes
between_servers kinds.Install from to log goes = goes
between_servers kinds.InstallReply from to log goes = goes
between_servers kinds.Take from to log goes = absurd cc
between_servers kinds.Delivered from to log goes = absurd cc
between_servers kinds.Submit from to log goes = absurd cc
between_servers kinds.PlanResult from to log goes = absurd cc
between_servers kinds.Finish from to log goes = absurd cc
between_servers kinds.Nack from to log goes = absurd cc
between_servers kinds.Refused from to log goes = absurd cc
between_servers kinds.Register from to log goes = absurd cc
between_servers kinds.Heartbeat from to log goes = absurd cc
between_servers kinds.Pull from to log goes = absurd cc
between_servers kinds.List from to log goes = absurd cc
between_servers kinds.Report from to log goes = absurd cc
between_servers kinds.Told from to log goes = absurd cc

pub log_kind : {S C : Type 0} (b : LogBody S C) → is_of_log (kind_of (log_body b)) ≡ true
log_kind (logs.VoteRequest v) = refl
log_kind (logs.VoteReply v) = refl
log_kind (logs.Append a) = refl
log_kind (logs.AppendReply r) = refl
log_kind (logs.Install i) = refl
log_kind (logs.InstallReply r) = refl

pub log_goes : {S C : Type 0} (b : LogBody S C) (from to : Actor) → may_go (kind_of (log_body b)) from to ≡ is_another_server from to
log_goes (logs.VoteRequest v) from to = refl
log_goes (logs.VoteReply v) from to = refl
log_goes (logs.Append a) from to = refl
log_goes (logs.AppendReply r) from to = refl
log_goes (logs.Install i) from to = refl
log_goes (logs.InstallReply r) from to = refl

pub server_sends : (from to : Actor) → is_another_server from to ≡ true → is_server from ≡ true
server_sends (Server from) to goes = refl
server_sends (Client from) (Server to) goes = absurd cc
server_sends (Client from) (Client to) goes = absurd cc

pub server_receives : (from to : Actor) → is_another_server from to ≡ true → is_server to ≡ true
server_receives from (Server to) goes = refl
server_receives (Server from) (Client to) goes = absurd cc
server_receives (Client from) (Client to) goes = absurd cc
