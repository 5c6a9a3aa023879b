-- Such processes run servers of the group.
use Rattle.std.proofs.Common.{◌≡◌, ◌∙◌, inl, inr, ℕ, ◌+◌, Bool, true, false, Option, Some, None, Result, Ok, Err, if◌then◌else◌, List, [], ◌∷◌, ◌++◌, append-nil, append_assoc, drop, length, refl, sym, ap, subst, arith}
use Rattle.std.specs.Prelude.{codes, decimal, slice_index}
use Rattle.std.specs.List.{AllByRecursion, AllZip, cons_option, filter_map}
use Rattle.std.proofs.lemmas.Bool.{eqb-true}
use Rattle.std.proofs.lemmas.List.{append_cancel_left, drop_at}
use Rattle.rows.specs.Versions.{newest}
use Rattle.rows.specs.declared.actor.Actor.{Actor}
use Rattle.rows.specs.declared.actor.Actor.TheVariants as actors
use Rattle.rows.specs.declared.command.Command.{Command}
use Rattle.rows.specs.declared.refusal.Refusal.{Refusal}
use Rattle.rows.specs.declared.refusal.Refusal.TheVariants as refusals
use Rattle.fields_model.specs.Format.{IsBytes, number, spelled}
use Rattle.fields_model.proofs.FormatLaws.{length-spelled, number_lawful}
use Rattle.fields_model.proofs.WholeTexts.{no_text_begins_another}
use Rattle.machine_model.specs.MachineSpec.{MachineSpec}
use Rattle.fsm_model.specs.Words.{State}
use Rattle.fsm_model.specs.ClusterMachine.{cluster_spec}
use Rattle.fsm_model.proofs.ClusterMachine.{cluster_lawful}
use Rattle.wire.specs.Frames.{Frame, header_of, message_at, message_text, sized}
use Rattle.wire.specs.Grammar.{addresses, body, kind}
use Rattle.wire.specs.Messages.{Message}
use Rattle.wire.specs.declared.body.Body.{Body}
use Rattle.wire.specs.declared.body.Body.TheVariants as bodies
use Rattle.wire.proofs.Framing.{message_found, message_only}
use Rattle.raft_model.specs.Logs.{term_at, commands}
use Rattle.raft_model.specs.Rafts.{is_up}
use Rattle.raft_snapshot.specs.Bases.{IsBaseOf}
use Rattle.raft_snapshot.specs.Stored.{Stored}
use Rattle.raft_snapshot.specs.Texts.{IsStableText, stable}
use Rattle.raft_core.specs.RaftView.{RaftView, SameNumber}
use Rattle.raft_core.specs.Refusals.{is_server_at}
use Rattle.raft_core.specs.Steps.{Stores}
use Rattle.group_model.specs.Inputs as inputs
use Rattle.group_model.specs.Messages.{GroupMessage, OfLog, Service, ServiceMessage, BetweenServers, ToServer, ToClient}
use Rattle.group_model.specs.Servers.{Server, ServerTurn, step, takes_log_message}
use Rattle.group_inputs.specs.Handings.{Handing, FrameBytes, OwnInput}
use Rattle.group_frames.specs.GroupFrames.{CarriesGroup, IsGroupFrame, SendsGroup, receiver_of, service_between, service_receiver}
use Rattle.journal.specs.Events.{IoEvent}
use Rattle.journal.specs.Journals.{IsJournal}
use Rattle.journal.specs.Records.{wal_record}
use Rattle.processes.specs.Groups.{GroupActor, GroupClient, GroupServer, IsFor, IsServersOwn, Item, ServerOf, Comes, ServerInput, log_comes, server_comes, server_own}
use Rattle.processes.specs.Logs.{nothing_persistent, started}
use Rattle.process_lives.specs.Groups as lives
use Rattle.process_lives.specs.Groups.{AreSent, sent_none, sends_frame, sends_answer, reports, FrameHanded, InputHanded, IsNoFrame, TakesFrom, declines, takes_in, hands_none, hands_more, TurnHands, ShowsServer, StaysServer, RunsGroupServers}
use Rattle.process_lives.specs.Lives.{IsReadAs}
use Rattle.process_lives.specs.Servers.{CoversAll}
use Rattle.raft_records.specs.Records.{raft_replay}
use Rattle.raft_records.specs.Starts.{IsStored, new_part}
use Rattle.server.specs.declared.server.Outbox.{Outbox}
use Rattle.server.specs.ServerViews.{ServerView, SameServer}
use Rattle.server.specs.Refusals.{is_of_group, read_refusal, wrong_address}
use Rattle.server.proofs.Servers.{same_is}
use Rattle.timers.specs.ServerTimes.{due_after}
use Rattle.timers.specs.declared.due.Due.{Due}
use Rattle.timers.specs.declared.due.Due.TheVariants as dues
use Rattle.server_node.specs.declared.asked.Asked.{Asked}
use Rattle.server_node.specs.Answers.{IsAnswer, answer_text, sends}
use Rattle.server_node.specs.Handed.{AreOwn, Hands, HandsAll, IsOwn, Refuses, Steps}
use Rattle.server_node.specs.Lives.{Stands, header_text, log_of, node_code}
use Rattle.server_node.specs.Nodes.{NodeView}
use Rattle.server_node.specs.Passing.{input_due, leader_of, seen_of}
use Rattle.server_node.specs.Turns.{HandsOne, Serves, Turn, stored_by, takes_frame, refuses_frame, passes_time, takes_request, refuses_request, reads_no_request, tells, shows, shows_state, reads_nothing}

-- ---- what is sent

spells_version : spelled 1 newest ≡ newest ∷ []
unfolding spelled
spells_version = refl

-- a frame begins with its version
begins_so : (message : Message State Command) → slice_index (message_text cluster_spec message) 0 ≡ newest
begins_so message =
    let head = header_of message in
    let behind = kind.text head.kind ++ (addresses head.kind).text (head.from, head.to) in
    ap (λ (front : List ℕ). slice_index ((front ++ behind) ++ sized ((body cluster_spec head.kind).text message.body)) 0) spells_version

unsized : (item : List ℕ) → drop 4 (sized item) ≡ item
unsized item = drop_at (spelled 4 (length item)) item 4 (length-spelled 4 (length item))

no_frame : (id : ℕ) (text : List ℕ) → IsNoFrame (sized (answer_text id text))
no_frame id text item same frame =
    let is : answer_text id text ≡ item = sym (unsized (answer_text id text)) ∙ ap (drop 4) same ∙ unsized item in
    let first : 65 ≡ newest = ap (λ (l : List ℕ). slice_index l 0) (is ∙ frame.1.1) ∙ begins_so frame.0 in
    omega (arith, first)

sent_so : (frames : List Frame) (more : List IoEvent) → AreSent more [] → AreSent (sends frames ++ more) frames
sent_so [] more rest = rest
sent_so (frame ∷ frames) more rest = sends_frame frame (sent_so frames more rest)

answers_so : (events : List IoEvent) → AllByRecursion IsAnswer events → AreSent events []
answers_so [] all = sent_none
answers_so (event ∷ events) all = subst (λ e. AreSent (e ∷ events) []) (sym all.0.2) (sends_answer _ (no_frame all.0.0 all.0.1) (answers_so events all.1))

told_so : {item : List ℕ} {old new : NodeView} {frames : List Frame} {told : List IoEvent} {ticket : Option Asked} (more : List IoEvent)
    → Serves item old new frames told ticket → AreSent more [] → AreSent (told ++ more) []
told_so more (takes_frame f a b c) rest = rest
told_so more (refuses_frame f cause a b c) rest = reports _ rest
told_so more (passes_time f ms handed a b c) rest = rest
told_so more (takes_request f asked line request a b c d e) rest = sends_answer _ (no_frame asked.id _) rest
told_so more (refuses_request f id line request cause a b c d) rest = sends_answer _ (no_frame id _) rest
told_so more (reads_no_request id line a b c) rest = sends_answer _ (no_frame id _) rest
told_so more (tells id index term status a b c) rest = sends_answer _ (no_frame id _) rest
told_so more (shows id text a b c) rest = sends_answer _ (no_frame id text) rest
told_so more (shows_state id text a b c) rest = sends_answer _ (no_frame id text) rest
told_so more (reads_nothing a b) rest = reports _ rest

-- ---- whom a frame is for

abbrev receiver_in : Option ServiceMessage → Actor → Actor
receiver_in None to = to
receiver_in (Some message) to = service_receiver message

goes_to : (from to : Actor) (b : Body State Command) → receiver_in (service_between from to b) to ≡ to
goes_to (actors.Server i) (actors.Server j) (bodies.Request request) = refl
goes_to (actors.Server i) (actors.Server j) (bodies.Response response) = refl
goes_to (actors.Server i) (actors.Server j) _ = refl
goes_to (actors.Client c) (actors.Server j) (bodies.Register class size) = refl
goes_to (actors.Client c) (actors.Server j) bodies.Heartbeat = refl
goes_to (actors.Client c) (actors.Server j) bodies.Pull = refl
goes_to (actors.Client c) (actors.Server j) (bodies.Report items) = refl
goes_to (actors.Client c) (actors.Server j) _ = refl
goes_to (actors.Server i) (actors.Client c) (bodies.List index rows) = refl
goes_to (actors.Server i) (actors.Client c) (bodies.Told what refused) = refl
goes_to (actors.Server i) (actors.Client c) _ = refl
goes_to (actors.Client c) (actors.Client d) _ = refl

-- the bytes are read as a message to this receiver
record ReadTo (bytes : List ℕ) (to : Actor) : Type 0 where
  read : Message State Command
  is : message_at cluster_spec bytes ≡ Ok read
  to_is : read.to ≡ to

read_to : (bytes : List ℕ) (x : GroupMessage) → IsGroupFrame cluster_spec bytes x → ReadTo bytes (receiver_of x)
read_to bytes (OfLog message) f = record { read = f.read; is = ap (message_at cluster_spec) f.text ∙ message_only cluster_spec cluster_lawful f.read f.fits; to_is = f.means.to }
read_to bytes (Service message) f = record {
  read = f.read;
  is = ap (message_at cluster_spec) f.text ∙ message_only cluster_spec cluster_lawful f.read f.fits;
  to_is = sym (goes_to f.read.from f.read.to f.read.body) ∙ ap (λ o. receiver_in o f.read.to) f.means;
}

is_up_then : (up : Bool) (o : Option Refusal) → (if up then o else Some refusals.Down) ≡ None → o ≡ None
is_up_then true o none = none
is_up_then false o none = let no : Some refusals.Down ≡ None = none in absurd (cc no)

is_at : (me : ℕ) (to : Actor) → is_server_at me to ≡ true → to ≡ actors.Server me
is_at me (actors.Server place) same = ap actors.Server (eqb-true place me same)
is_at me (actors.Client client) same = let no : false ≡ true = same in absurd (cc no)

addressed : (of_group here : Bool) → (if of_group then (if here then None else Some (refusals.Frame 3)) else Some (refusals.Frame 2)) ≡ None → here ≡ true
addressed true true none = refl
addressed true false none = let no : Some (refusals.Frame 3) ≡ None = none in absurd (cc no)
addressed false here none = let no : Some (refusals.Frame 2) ≡ None = none in absurd (cc no)

-- of what is taken this server is the receiver
is_receiver : (n me : ℕ) (bytes : List ℕ) (x : GroupMessage) → IsGroupFrame cluster_spec bytes x → read_refusal n me (message_at cluster_spec bytes) ≡ None → receiver_of x ≡ actors.Server me
is_receiver n me bytes x frame none =
    let r = read_to bytes x frame in
    let right : wrong_address n me r.read.from r.read.to ≡ None = sym (ap (read_refusal n me) r.is) ∙ none in
    sym r.to_is ∙ is_at me r.read.to (addressed (is_of_group n r.read.from) (is_server_at me r.read.to) right)

same_number : {a b : ℕ} → actors.Server a ≡ actors.Server b → a ≡ b
same_number h = cc

is_for : (i : ℕ) (message : ServiceMessage) → service_receiver message ≡ actors.Server i → IsFor i message
is_for i (BetweenServers from to message) is = same_number is
is_for i (ToServer client server request) is = same_number is
is_for i (ToClient server client response) is = let no : actors.Client client ≡ actors.Server i = is in absurd (cc no)

-- ---- what a server has in common before and after

all_covered : (v : RaftView State Command) → v.server.covered ≡ v.base.index → CoversAll v
all_covered v same = record { least = omega (arith, same); most = inl (omega (arith, same)) }

abbrev Stays : NodeView → NodeView → Type 0
Stays old new = StaysServer log_of Stands old new

abbrev Shown : NodeView → GroupActor → Type 0
Shown v a = ShowsServer log_of Stands v a

steps_stay : (old new : NodeView) (h : Handing) (sent : Outbox) → Steps old.server h new.server sent → Stays old new
steps_stay old new h sent steps = record { same = steps.same; based = λ covers. all_covered new.server.raft steps.compacted.count }

same_stay : (old new : NodeView) → SameServer old.server new.server → Stays old new
same_stay old new same = record {
  same = (same.raft.me, same.raft.size);
  based = λ covers. all_covered new.server.raft ((λ i. (same.raft.server i).covered) ∙ covers ∙ sym (λ i. (same.raft.base i).index));
}

same_shown : (old new : NodeView) → SameServer old.server new.server → (a : GroupActor) → Shown old a → Shown new a
same_shown old new same (GroupServer s) shown = same_is old.server new.server s same shown
same_shown old new same (GroupClient x) shown = absurd shown

no_change : (old new : NodeView) → new.server ≡ old.server → SameServer old.server new.server
no_change old new is = subst (λ v. SameServer old.server v) (sym is) (record { raft = record { me = refl; size = refl; base = refl; server = refl }; desk = refl })

-- ---- what is handed in

own_one : (leader : Option ℕ) (due : Due) (rest : List Handing) → AreOwn rest → AreOwn (cons_option (input_due leader due) rest)
own_one leader dues.Timeout rest own = (tt, own)
own_one leader dues.Compact rest own = (tt, own)
own_one None dues.Take rest own = own
own_one (Some to) dues.Take rest own = (tt, own)
own_one leader dues.PlanTurn rest own = (tt, own)
own_one leader dues.FreeTurn rest own = (tt, own)
own_one leader dues.Reap rest own = (tt, own)
own_one leader (dues.Lapse eval) rest own = (tt, own)
own_one leader (dues.Expire node beats) rest own = (tt, own)
own_one leader (dues.DrainTurn node) rest own = (tt, own)

own_due : (leader : Option ℕ) (due : List Due) → AreOwn (filter_map (input_due leader) due)
own_due leader [] = tt
own_due leader (due ∷ more) = own_one leader due (filter_map (input_due leader) more) (own_due leader more)

own_both : (hs more : List Handing) → AreOwn hs → AreOwn more → AreOwn (hs ++ more)
own_both [] more none rest = rest
own_both (h ∷ hs) more own rest = (own.0, own_both hs more own.1 rest)

carried : (frames : List Frame) (messages : List GroupMessage) → SendsGroup cluster_spec [] frames messages → AllZip (CarriesGroup cluster_spec) frames messages
carried frames messages sent = subst (λ l. AllZip (CarriesGroup cluster_spec) l messages) (sym sent.added) sent.carry

module _ (n k : ℕ) where
  abbrev Takes : List GroupMessage → GroupActor → Item → NodeView → List Frame → Type 0
  Takes left a input new frames = TakesFrom n (ServerOf k) Shown Stays left a input new frames

  abbrev HandsOver : List ℕ → NodeView → NodeView → List Frame → Type 0
  HandsOver item old new frames = lives.Hands n (ServerOf k) Shown Stays item old new frames

  abbrev HandsMany : List ℕ → NodeView → NodeView → List Frame → Type 0
  HandsMany item old new frames = lives.HandsAll n (ServerOf k) Shown Stays item old new frames

  at_place : (f : ℕ → ℕ → Result ServerTurn Refusal) (turn : ServerTurn) (size me : ℕ) → size ≡ n → me ≡ k → f size me ≡ Ok turn → f n k ≡ Ok turn
  at_place f turn size me of at is = sym (λ i. f (of i) (at i)) ∙ is

  module _ (old new : NodeView) (sent : Outbox) (at : old.server.raft.me ≡ k) (of : old.server.raft.size ≡ n) where
    own_taken : (input : inputs.Input) → IsServersOwn input → Steps old.server (OwnInput input) new.server sent → (a : GroupActor) → Shown old a → Takes [] a (ServerInput input) new sent.frames
    own_taken input own steps (GroupClient x) shown = absurd shown
    own_taken input own steps (GroupServer s) shown =
        let t = steps.taken s shown in
        record {
          actor = GroupServer t.turn.server;
          sent = t.turn.sent;
          fits = steps.fits;
          takes = λ fits. server_own k s input t.turn own fits (at_place (λ size me. step size me s input) t.turn old.server.raft.size old.server.raft.me of at t.is);
          shows = t.server;
          carry = carried sent.frames t.turn.sent t.sent;
        }

    message_taken : (bytes : List ℕ) → Steps old.server (FrameBytes bytes) new.server sent → (a : GroupActor) (x : GroupMessage) → Shown old a → IsGroupFrame cluster_spec bytes x → Takes (x ∷ []) a (Comes x) new sent.frames
    message_taken bytes steps (GroupClient y) x shown frame = absurd shown
    message_taken bytes steps (GroupServer s) (OfLog message) shown frame =
        let t = steps.taken s shown (OfLog message) frame in
        let admitted = is_up_then (is_up s.raft.mode) (read_refusal old.server.raft.size old.server.raft.me (message_at cluster_spec bytes)) (steps.admitted s shown) in
        let to = is_receiver old.server.raft.size old.server.raft.me bytes (OfLog message) frame admitted in
        record {
          actor = GroupServer t.turn.server;
          sent = t.turn.sent;
          fits = tt;
          takes = λ fits. log_comes k s message t.turn (0, refl) (same_number to ∙ at) (at_place (λ size me. takes_log_message size me s message) t.turn old.server.raft.size old.server.raft.me of at t.is);
          shows = t.server;
          carry = carried sent.frames t.turn.sent t.sent;
        }
    message_taken bytes steps (GroupServer s) (Service message) shown frame =
        let t = steps.taken s shown (Service message) frame in
        let admitted = is_up_then (is_up s.raft.mode) (read_refusal old.server.raft.size old.server.raft.me (message_at cluster_spec bytes)) (steps.admitted s shown) in
        let to = is_receiver old.server.raft.size old.server.raft.me bytes (Service message) frame admitted in
        record {
          actor = GroupServer t.turn.server;
          sent = t.turn.sent;
          fits = tt;
          takes = λ fits. server_comes k s message t.turn (0, refl) (is_for k message (to ∙ ap actors.Server at)) fits (at_place (λ size me. step size me s (inputs.Arrives message)) t.turn old.server.raft.size old.server.raft.me of at t.is);
          shows = t.server;
          carry = carried sent.frames t.turn.sent t.sent;
        }

    unread : (bytes : List ℕ) (place : ℕ) → message_at cluster_spec bytes ≡ Err place → Steps old.server (FrameBytes bytes) new.server sent → (a : GroupActor) → Shown old a → ⊥
    unread bytes place is steps (GroupClient x) shown = shown
    unread bytes place is steps (GroupServer s) shown =
        let admitted = is_up_then (is_up s.raft.mode) (read_refusal old.server.raft.size old.server.raft.me (message_at cluster_spec bytes)) (steps.admitted s shown) in
        let no : Some (refusals.Frame place) ≡ None = sym (ap (read_refusal old.server.raft.size old.server.raft.me) is) ∙ admitted in
        cc no

    -- a frame that is taken can be read, unless there is no such server at all
    read_so : (item : List ℕ) (r : Result (Message State Command) ℕ) → message_at cluster_spec item ≡ r → IsBytes item → Steps old.server (FrameBytes item) new.server sent → HandsOver item old new sent.frames
    read_so item (Ok message) is bytes steps =
        takes_in (FrameHanded item) sent.frames (steps_stay old new (FrameBytes item) sent steps) (refl, (message, message_found cluster_spec cluster_lawful item message bytes is))
        (λ a x shown frame. message_taken item steps a x shown frame)
    read_so item (Err place) is bytes steps =
        takes_in (InputHanded (ServerInput inputs.Timeout)) sent.frames (steps_stay old new (FrameBytes item) sent steps) tt
        (λ a shown. absurd (unread item place is steps a shown))

    own_so : (item : List ℕ) (input : inputs.Input) → IsServersOwn input → Steps old.server (OwnInput input) new.server sent → HandsOver item old new sent.frames
    own_so item input own steps =
        takes_in (InputHanded (ServerInput input)) sent.frames (steps_stay old new (OwnInput input) sent steps) tt (λ a shown. own_taken input own steps a shown)

    handed_so : (item : List ℕ) (h : Handing) → IsOwn h → Steps old.server h new.server sent → HandsOver item old new sent.frames
    handed_so item (FrameBytes bytes) own steps = absurd own
    handed_so item (OwnInput input) own steps = own_so item input own steps

  refused_so : (item : List ℕ) (old new : NodeView) (h : Handing) (sent : Outbox) (cause : Refusal) → Refuses old.server h new.server sent cause → HandsOver item old new sent.frames
  refused_so item old new h sent cause refuses =
      subst (λ (o : Outbox). HandsOver item old new o.frames) (sym refuses.nothing) (declines (same_stay old new refuses.same) (same_shown old new refuses.same))

  given_so : (item : List ℕ) (old new : NodeView) (h : Handing) (sent : Outbox) (cause : Option Refusal) → old.server.raft.me ≡ k → old.server.raft.size ≡ n → IsOwn h → Hands old.server h new.server sent cause → HandsOver item old new sent.frames
  given_so item old new h sent None at of own hands = handed_so old new sent at of item h own hands
  given_so item old new h sent (Some cause) at of own hands = refused_so item old new h sent cause hands

  same_place : (old new : ServerView) (h : Handing) (sent : Outbox) (cause : Option Refusal) → Hands old h new sent cause → SameNumber old.raft new.raft
  same_place old new h sent None hands = hands.same
  same_place old new h sent (Some cause) hands = (hands.same.raft.me, hands.same.raft.size)

  one_so : (item : List ℕ) (old new : NodeView) (frames : List Frame) → HandsOver item old new frames → HandsMany item old new frames
  one_so item old new frames one = hands_more new frames hands_none one

  -- it has that server at last, whatever else changed
  ends_so : (item : List ℕ) (old mid new : NodeView) (frames : List Frame) → new.server ≡ mid.server → HandsMany item old mid frames → HandsMany item old new frames
  ends_so item old mid new frames same all =
      let stays = no_change mid new same in
      subst (HandsMany item old new) (append-nil frames) (hands_more new [] all (declines (same_stay mid new stays) (same_shown mid new stays)))

  many_so : (item : List ℕ) (old mid : NodeView) (before : List Frame) (hs : List Handing) (new : NodeView) (frames : List Frame) → mid.server.raft.me ≡ k → mid.server.raft.size ≡ n → AreOwn hs
      → HandsAll mid.server hs new.server frames → HandsMany item old mid before → HandsMany item old new (before ++ frames)
  many_so item old mid before [] new frames at of own rest all =
      ends_so item old mid new (before ++ frames) rest.0 (subst (λ l. HandsMany item old mid l) (sym (append-nil before) ∙ ap (λ l. before ++ l) (sym rest.1)) all)
  many_so item old mid before (h ∷ hs) new frames at of own rest all =
      let next : NodeView = record mid { server = rest.0 } in
      let sent = rest.1 in
      let same = same_place mid.server rest.0 h sent rest.2 rest.4 in
      let one = given_so item mid next h sent rest.2 at of own.0 rest.4 in
      subst (HandsMany item old new) (append_assoc before sent.frames rest.3 ∙ ap (λ l. before ++ l) (sym rest.6))
      (many_so item old next (before ++ sent.frames) hs new rest.3 (same.0 ∙ at) (same.1 ∙ of) own.1 rest.5 (hands_more next sent.frames all one))

  single_so : (item : List ℕ) (old new : NodeView) (h : Handing) (frames : List Frame) (cause : Option Refusal) → (one : HandsOne old h new frames cause) → HandsOver item old new one.sent.frames → HandsMany item old new frames
  single_so item old new h frames cause one over = subst (HandsMany item old new) (sym one.frames_are) (one_so item old new one.sent.frames over)

  nothing_so : (item : List ℕ) (old new : NodeView) → new ≡ old → HandsMany item old new []
  nothing_so item old new is = ends_so item old old new [] (λ i. (is i).server) hands_none

  serves_so : (item : List ℕ) (old new : NodeView) (frames : List Frame) (told : List IoEvent) (ticket : Option Asked) → IsBytes item → old.server.raft.me ≡ k → old.server.raft.size ≡ n
      → Serves item old new frames told ticket → HandsMany item old new frames
  serves_so item old new frames told ticket bytes at of (takes_frame f is one wait) =
      single_so item old new (FrameBytes item) frames None one (read_so old new one.sent at of item (message_at cluster_spec item) refl bytes one.hands)
  serves_so item old new frames told ticket bytes at of (refuses_frame f cause is one same) =
      single_so item old new (FrameBytes item) frames (Some cause) one (refused_so item old new (FrameBytes item) one.sent cause one.hands)
  serves_so item old new frames told ticket bytes at of (passes_time f ms handed is by all) =
      let due = filter_map (input_due (leader_of old.server)) (due_after ms old.timers (seen_of old by.idle) by.sights) in
      let own = own_both due by.rest (own_due (leader_of old.server) (due_after ms old.timers (seen_of old by.idle) by.sights)) by.own in
      many_so item old old [] handed new frames at of (subst AreOwn (sym by.is) own) all hands_none
  serves_so item old new frames told ticket bytes at of (takes_request f asked line request a b one same stands) =
      single_so item old new (OwnInput (inputs.Request request)) frames None one (own_so old new one.sent at of item (inputs.Request request) tt one.hands)
  serves_so item old new frames told ticket bytes at of (refuses_request f id line request cause a b one same) =
      single_so item old new (OwnInput (inputs.Request request)) frames (Some cause) one (refused_so item old new (OwnInput (inputs.Request request)) one.sent cause one.hands)
  serves_so item old new frames told ticket bytes at of (reads_no_request id line a b is) = nothing_so item old new is
  serves_so item old new frames told ticket bytes at of (tells id index term status a b is) = nothing_so item old new is
  serves_so item old new frames told ticket bytes at of (shows id text a b is) = nothing_so item old new is
  serves_so item old new frames told ticket bytes at of (shows_state id text a b is) = nothing_so item old new is
  serves_so item old new frames told ticket bytes at of (reads_nothing a is) = nothing_so item old new is

  turn_so : (item : List ℕ) (old new : NodeView) (outs : List IoEvent) → old.server.raft.me ≡ k → old.server.raft.size ≡ n → Turn item old new outs → TurnHands n (ServerOf k) Shown Stays item old new outs
  turn_so item old new outs at of turn =
      let mid : NodeView = record new { asked = old.asked } in
      record {
        frames = turn.frames;
        hands = ends_so item old mid new turn.frames refl (serves_so item old mid turn.frames turn.at_once turn.ticket turn.bytes at of turn.serves);
        outs_are = subst (λ l. AreSent l turn.frames) (sym turn.is) (sent_so turn.frames (turn.at_once ++ turn.settled) (told_so turn.settled turn.serves (answers_so turn.settled turn.settles.answers)));
      }

-- ---- stores

spells_m : spelled 1 109 ≡ 109 ∷ []
unfolding spelled
spells_m = refl

module _ {S C : Type 0} (m : MachineSpec S C) where
  -- a journal's first line is no text of the old form
  no_old_text : (n k : ℕ) (file : List ℕ) (part : Stored S C) → IsStableText m part (header_text n k ++ file) → ⊥
  no_old_text n k file part (version, fits, is) =
      let byte = number 1 0 256 in
      let behind = (codes "inutebarn journal 1 server_node " ++ (decimal (k + 1) ++ (codes " of " ++ (decimal n ++ codes "\n")))) ++ file in
      let front : byte.text 109 ++ behind ≡ header_text n k ++ file = ap (λ l. l ++ behind) spells_m in
      let same : version ≡ 109 = no_text_begins_another byte (number_lawful 1 0 256 (omega arith) (omega arith)) version 109 ((stable m version).text part) behind
      (omega arith, omega (arith, fits.known.1)) (omega arith, omega arith) (sym is ∙ sym front) in
      omega (arith, same, fits.known.1)

  -- what the store has is what its records stand for
  reads_so : (n k : ℕ) (file : List ℕ) (part : Stored S C) → IsStored m (header_text n k) (Some (header_text n k ++ file)) part → IsReadAs (raft_replay m) file part
  reads_so n k file part (inl (behind, is, kept)) =
      let same : file ≡ behind = append_cancel_left (header_text n k) file behind is in
      record { payloads = kept.payloads; tail = kept.tail; journal = subst (λ l. IsJournal wal_record l kept.payloads kept.tail) (sym same) kept.journal; part_is = kept.part_is }
  reads_so n k file part (inr old) = absurd (no_old_text n k file part old)

  nothing_covered : IsBaseOf m (record { index = 0; term = 0; state = m.empty }) []
  unfolding term_at commands
  nothing_covered = record { index = refl; term = refl; state = refl }

  first_so : (part : Stored S C) → part ≡ new_part m → Stores m part (started nothing_persistent)
  first_so part is = subst (λ p. Stores m p (started nothing_persistent)) (sym is) (record { term = refl; vote = refl; log = record { covered = []; fits = nothing_covered; is = refl }; covered = refl })

pub runs_servers : (n : ℕ) → RunsGroupServers log_of Stands n (node_code n)
runs_servers n = record {
  refines = λ v s shown. shown.raft;
  turn = λ k item old new outs at of turn. turn_so n k item old new outs at of turn;
  member = λ k store v from. from.member.1;
  place = λ k store v from. from.place;
  starts = λ k store v from. from.server;
  first = λ k v from. first_so cluster_spec (stored_by v) from.stored;
  reads = λ k file v from. reads_so cluster_spec n k file (stored_by v) from.stored;
}
