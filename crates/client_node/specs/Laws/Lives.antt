-- Such processes run clients of the group.
use Rattle.std.proofs.Common.{◌≡◌, ◌∙◌, ℕ, Bool, true, false, cond, nat_lt, Option, Some, None, Result, Ok, Err, if◌then◌else◌, List, [], ◌∷◌, ◌++◌, append-nil, append_assoc, drop, length, map, refl, sym, ap, subst, arith}
use Rattle.std.specs.Prelude.{codes, filter, is_some, slice_index}
use Rattle.std.specs.List.{AllZip}
use Rattle.std.proofs.lemmas.Bool.{eqb-true}
use Rattle.std.proofs.lemmas.List.{append_cancel_left, drop_at}
use Rattle.rows.specs.Versions.{newest}
use Rattle.rows.specs.declared.actor.Actor.{Actor}
use Rattle.rows.specs.declared.actor.Actor.TheVariants as actors
use Rattle.rows.specs.declared.allocation.AllocId.{AllocId}
use Rattle.rows.specs.declared.command.Command.{Command}
use Rattle.rows.specs.declared.node.NodeSpec.{NodeSpec}
use Rattle.rows.specs.declared.refusal.Refusal.{Refusal}
use Rattle.rows.specs.declared.refusal.Refusal.TheVariants as refusals
use Rattle.fields_model.specs.Format.{IsBytes, spelled}
use Rattle.fields_model.proofs.FormatLaws.{length-spelled}
use Rattle.fsm_model.specs.Words.{State}
use Rattle.fsm_model.specs.ClusterMachine.{cluster_spec}
use Rattle.fsm_model.proofs.ClusterMachine.{cluster_lawful}
use Rattle.wire.specs.Frames.{Frame, IsFrame, header_of, message_at, message_text, sized}
use Rattle.wire.specs.Grammar.{addresses, body, kind}
use Rattle.wire.specs.Messages.{Message, kind_of, may_go}
use Rattle.wire.specs.declared.body.Body.{Body}
use Rattle.wire.specs.declared.body.Body.TheVariants as bodies
use Rattle.wire.proofs.Framing.{message_found, message_only}
use Rattle.raft_core.specs.Refusals.{is_server_of}
use Rattle.group_model.specs.Agents as agents
use Rattle.group_model.specs.Agents.{Agent, Life}
use Rattle.group_model.specs.Messages.{ClientResponse, GroupMessage, OfLog, Service, ServiceMessage, BetweenServers, ToServer, ToClient, Listing, Told}
use Rattle.group_inputs.specs.Events.{client_input}
use Rattle.group_inputs.specs.declared.client_input.ClientInput.{ClientInput}
use Rattle.group_inputs.specs.declared.client_input.ClientInput.TheVariants as inputs
use Rattle.group_frames.specs.GroupFrames.{CarriesGroup, IsGroupFrame, IsNoInstall, IsServiceFrame, receiver_of, service_between, service_receiver}
use Rattle.group_frames.proofs.SomeMessage.{some_message}
use Rattle.client_agent.specs.AgentView.{AgentView}
use Rattle.client_agent.specs.Inputs.{AgentReads}
use Rattle.client_agent.specs.Refusals.{client_frame_refusal, is_client_at, misdirected_to_client, stranger_fault, unreadable_to_client}
use Rattle.client_agent.specs.Steps.{AgentSteps}
use Rattle.actor.specs.Answers.{ClientSteps}
use Rattle.journal.specs.Events.{IoEvent}
use Rattle.processes.specs.Groups.{GroupActor, GroupClient, GroupServer, IsClientsOwn, Item, ClientOf, Comes, ClientInput as OwnItem, client_comes, client_own}
use Rattle.process_lives.specs.Groups as lives
use Rattle.process_lives.specs.Groups.{AreSent, sent_none, sends_frame, sends_answer, reports, FrameHanded, InputHanded, IsNoFrame, TakesFrom, declines, takes_in, hands_none, hands_more, TurnHands, ShowsClient, StaysClient, RunsGroupClients}
use Rattle.process_lives.specs.Lives.{IsReadAs}
use Rattle.timers.specs.declared.client_timers.ClientDue.{ClientDue}
use Rattle.timers.specs.declared.client_timers.ClientDue.TheVariants as dues
use Rattle.client_node.specs.Lives.{client_of, header_text, node_code, size_of}
use Rattle.client_node.specs.Records.{started_replay}
use Rattle.client_node.specs.Starts.{IsStored}
use Rattle.client_node.specs.Turns.{AsksAll, Hands, HandsAll, NodeView, Turn, WentBy, asks_due, ended, frame, is_not_among, lines_of, runs_in, said_between, said_of, sends, started_by, time, unread, word_text}

-- ---- what is sent

spells_version : spelled 1 newest ≡ newest ∷ []
unfolding spelled
spells_version = refl

-- a frame begins with its version
begins_so : (message : Message State Command) → slice_index (message_text cluster_spec message) 0 ≡ newest
begins_so message =
    let head = header_of message in
    let behind = kind.text head.kind ++ (addresses head.kind).text (head.from, head.to) in
    ap (λ (front : List ℕ). slice_index ((front ++ behind) ++ sized ((body cluster_spec head.kind).text message.body)) 0) spells_version

unsized : (item : List ℕ) → drop 4 (sized item) ≡ item
unsized item = drop_at (spelled 4 (length item)) item 4 (length-spelled 4 (length item))

-- 115 is the letter that `start` and `stop` begin with
no_frame : (text : List ℕ) → slice_index text 0 ≡ 115 → IsNoFrame (sized text)
no_frame text first item same is_one =
    let is : text ≡ item = sym (unsized text) ∙ ap (drop 4) same ∙ unsized item in
    let both : 115 ≡ newest = sym first ∙ ap (λ (l : List ℕ). slice_index l 0) (is ∙ is_one.1.1) ∙ begins_so is_one.0 in
    omega (arith, both)

sent_so : (frames : List Frame) (more : List IoEvent) → AreSent more [] → AreSent (sends frames ++ more) frames
sent_so [] more rest = rest
sent_so (one ∷ frames) more rest = sends_frame one (sent_so frames more rest)

words_so : (word : List ℕ) → ((id : AllocId) → slice_index (word_text word id) 0 ≡ 115) → (ids : List AllocId) (rest : List IoEvent) → AreSent rest [] → AreSent (map (said_of word) ids ++ rest) []
words_so word first [] rest told = told
words_so word first (id ∷ ids) rest told = sends_answer _ (no_frame (word_text word id) (first id)) (words_so word first ids rest told)

lines_so : (told : Option Refusal) → AreSent (lines_of told) []
lines_so None = sent_none
lines_so (Some cause) = reports _ sent_none

outs_so : (a b : AgentView) (sent : List Frame) (told : Option Refusal) → AreSent (sends sent ++ (said_between a b ++ lines_of told)) sent
outs_so a b sent told =
    let stops = filter (is_not_among (runs_in b)) (runs_in a) in
    let starts = filter (is_not_among (runs_in a)) (runs_in b) in
    let last = lines_of told in
    let all : AreSent (map (said_of (codes "stop")) stops ++ (map (said_of (codes "start")) starts ++ last)) [] =
    words_so (codes "stop") (λ id. refl) stops (map (said_of (codes "start")) starts ++ last) (words_so (codes "start") (λ id. refl) starts last (lines_so told)) in
    sent_so sent (said_between a b ++ last) (subst (λ l. AreSent l []) (sym (append_assoc (map (said_of (codes "stop")) stops) (map (said_of (codes "start")) starts) last)) all)

-- ---- whom a frame is for

abbrev receiver_in : Option ServiceMessage → Actor → Actor
receiver_in None to = to
receiver_in (Some message) to = service_receiver message

goes_to : (from to : Actor) (b : Body State Command) → receiver_in (service_between from to b) to ≡ to
goes_to (actors.Server i) (actors.Server j) (bodies.Request request) = refl
goes_to (actors.Server i) (actors.Server j) (bodies.Response response) = refl
goes_to (actors.Server i) (actors.Server j) _ = refl
goes_to (actors.Client c) (actors.Server j) (bodies.Register class size) = refl
goes_to (actors.Client c) (actors.Server j) bodies.Heartbeat = refl
goes_to (actors.Client c) (actors.Server j) bodies.Pull = refl
goes_to (actors.Client c) (actors.Server j) (bodies.Report items) = refl
goes_to (actors.Client c) (actors.Server j) _ = refl
goes_to (actors.Server i) (actors.Client c) (bodies.List index rows) = refl
goes_to (actors.Server i) (actors.Client c) (bodies.Told what refused) = refl
goes_to (actors.Server i) (actors.Client c) _ = refl
goes_to (actors.Client c) (actors.Client d) _ = refl

-- the bytes are read as a message to this receiver
record ReadTo (bytes : List ℕ) (to : Actor) : Type 0 where
  read : Message State Command
  is : message_at cluster_spec bytes ≡ Ok read
  to_is : read.to ≡ to

read_to : (bytes : List ℕ) (x : GroupMessage) → IsGroupFrame cluster_spec bytes x → ReadTo bytes (receiver_of x)
read_to bytes (OfLog message) f = record { read = f.read; is = ap (message_at cluster_spec) f.text ∙ message_only cluster_spec cluster_lawful f.read f.fits; to_is = f.means.to }
read_to bytes (Service message) f = record {
  read = f.read;
  is = ap (message_at cluster_spec) f.text ∙ message_only cluster_spec cluster_lawful f.read f.fits;
  to_is = sym (goes_to f.read.from f.read.to f.read.body) ∙ ap (λ o. receiver_in o f.read.to) f.means;
}

is_up_then : (up : Bool) (o : Option Refusal) → (if up then o else Some refusals.Down) ≡ None → o ≡ None
is_up_then true o none = none
is_up_then false o none = let no : Some refusals.Down ≡ None = none in absurd (cc no)

is_at : (me : ℕ) (to : Actor) → is_client_at me to ≡ true → to ≡ actors.Client me
is_at me (actors.Server place) same = let no : false ≡ true = same in absurd (cc no)
is_at me (actors.Client client) same = ap actors.Client (eqb-true client me same)

addressed : (of_group here : Bool) (stranger : Refusal) → (if of_group then (if here then None else Some (refusals.Frame 3)) else Some stranger) ≡ None → here ≡ true
addressed true true stranger none = refl
addressed true false stranger none = let no : Some (refusals.Frame 3) ≡ None = none in absurd (cc no)
addressed false here stranger none = let no : Some stranger ≡ None = none in absurd (cc no)

-- of what is read and taken this client is the receiver
read_here : (n me : ℕ) (read : Message State Command) → misdirected_to_client n me read.from read.to ≡ None → read.to ≡ actors.Client me
read_here n me read right = is_at me read.to (addressed (is_server_of n read.from) (is_client_at me read.to) (refusals.Frame (stranger_fault read.from)) right)

is_receiver : (n me : ℕ) (bytes : List ℕ) (x : GroupMessage) → IsGroupFrame cluster_spec bytes x → client_frame_refusal n me bytes ≡ None → receiver_of x ≡ actors.Client me
is_receiver n me bytes x carries none =
    let r = read_to bytes x carries in
    let right : misdirected_to_client n me r.read.from r.read.to ≡ None = sym (ap (unreadable_to_client n me) r.is) ∙ none in
    sym r.to_is ∙ read_here n me r.read right

same_client : {a b : ℕ} → actors.Client a ≡ actors.Client b → a ≡ b
same_client h = cc

-- it is a response to this client
record IsResponse (k : ℕ) (x : GroupMessage) : Type 0 where
  from : ℕ
  response : ClientResponse
  is : x ≡ Service (ToClient from k response)

response_so : (k : ℕ) (x : GroupMessage) → receiver_of x ≡ actors.Client k → IsResponse k x
response_so k (OfLog message) to = let no : actors.Server message.to ≡ actors.Client k = to in absurd (cc no)
response_so k (Service (BetweenServers from server message)) to = let no : actors.Server server ≡ actors.Client k = to in absurd (cc no)
response_so k (Service (ToServer client server request)) to = let no : actors.Server server ≡ actors.Client k = to in absurd (cc no)
response_so k (Service (ToClient server client response)) to = record { from = server; response = response; is = ap (λ c. Service (ToClient server c response)) (same_client to) }

no_install : (from to : Actor) (c : ℕ) (b : Body State Command) → to ≡ actors.Client c → may_go (kind_of b) from to ≡ true → IsNoInstall b
no_install from (actors.Server j) c (bodies.Install v) is goes = let no : actors.Server j ≡ actors.Client c = is in absurd (cc no)
no_install (actors.Server i) (actors.Client d) c (bodies.Install v) is goes = absurd cc
no_install (actors.Client e) (actors.Client d) c (bodies.Install v) is goes = absurd cc
no_install from to c _ is goes = tt

-- ---- no step changes a client's node

abbrev KeepsNode : Agent → Result agents.AgentTurn Refusal → Type 0
KeepsNode c (Ok turn) = turn.client.node ≡ c.node
KeepsNode c (Err r) = Unit {0}

keeps_if : (c : Agent) (b : Bool) (turn : agents.AgentTurn) (r : Refusal) → turn.client.node ≡ c.node → KeepsNode c (cond b (Ok turn) (Err r))
keeps_if c true turn r h = h
keeps_if c false turn r h = tt

node_if : (c : Agent) (b : Bool) (x y : agents.AgentTurn) → x.client.node ≡ c.node → y.client.node ≡ c.node → (cond b x y).client.node ≡ c.node
node_if c true x y h g = h
node_if c false x y h g = g

response_keeps : (c : Agent) (from : ℕ) (l : Life) (response : ClientResponse) → (agents.takes_response c from l response).client.node ≡ c.node
response_keeps c from l (Listing index rows) = node_if c (nat_lt index l.seen) _ _ refl refl
response_keeps c from l (Told what refused) = refl

lives_keep : (n : ℕ) (c : Agent) (l : Life) (input : agents.Input) → KeepsNode c (agents.lives n c l input)
lives_keep n c l (agents.Arrives from response) = response_keeps c from l response
lives_keep n c l (agents.RegisterAt server) = keeps_if c (nat_lt server n) _ _ refl
lives_keep n c l (agents.Ping server) = keeps_if c (nat_lt server n) _ _ refl
lives_keep n c l (agents.PullFrom server) = keeps_if c (nat_lt server n) _ _ refl
lives_keep n c l (agents.End id ok) = keeps_if c (agents.runs l.running id) _ _ refl
lives_keep n c l agents.Crash = refl
lives_keep n c l agents.Restart = tt

wakes_keep : (c : Agent) (input : agents.Input) → KeepsNode c (agents.wakes c input)
wakes_keep c agents.Restart = refl
wakes_keep c input = tt

step_keeps : (n : ℕ) (c : Agent) (o : Option Life) (input : agents.Input) → KeepsNode c (agents.step_of n c o input)
step_keeps n c None input = wakes_keep c input
step_keeps n c (Some l) input = lives_keep n c l input

-- ---- what a client has in common before and after

abbrev Stays : NodeView → NodeView → Type 0
Stays old new = StaysClient size_of client_of old new

abbrev Shown : NodeView → GroupActor → Type 0
Shown v a = ShowsClient size_of client_of v a

steps_stay : (old new : NodeView) (input : agents.Input) (before after : List Frame) → new.agent.size ≡ old.agent.size → AgentSteps old.agent input new.agent before after → Stays old new
steps_stay old new input before after size steps = record {
  same_size = size;
  node = ap (λ (c : Agent). c.node) steps.client ∙ subst (KeepsNode old.agent.client) steps.step (step_keeps old.agent.size old.agent.client old.agent.client.life input);
}

same_stay : (old new : NodeView) → new.agent ≡ old.agent → Stays old new
same_stay old new same = record { same_size = ap (λ (a : AgentView). a.size) same; node = ap (λ (a : AgentView). a.client.node) same }

same_shown : (old new : NodeView) → new.agent ≡ old.agent → (a : GroupActor) → Shown old a → Shown new a
same_shown old new same (GroupServer s) shown = absurd shown
same_shown old new same (GroupClient x) shown = ap (λ (a : AgentView). a.client) same ∙ shown

-- ---- inputs of its own

abbrev IsOwn : ClientInput → Type 0
IsOwn (inputs.Frame bytes) = ⊥
IsOwn inputs.Crash = ⊥
IsOwn inputs.Restart = ⊥
IsOwn _ = Unit {0}

abbrev AreOwn : List ClientInput → Type 0
AreOwn [] = Unit {0}
AreOwn (given ∷ rest) = IsOwn given × AreOwn rest

own_is : (given : ClientInput) → IsOwn given → IsClientsOwn (client_input given)
own_is (inputs.Frame bytes) own = own
own_is inputs.Crash own = own
own_is inputs.Restart own = own
own_is _ own = tt

own_reads : (me : ℕ) (given : ClientInput) → IsOwn given → AgentReads me given (client_input given)
own_reads me (inputs.Frame bytes) own = absurd own
own_reads me inputs.Crash own = absurd own
own_reads me inputs.Restart own = absurd own
own_reads me _ own = refl

own_asked : (what : ClientDue) (to : ℕ) → IsOwn (asks_due what to)
own_asked dues.Register to = tt
own_asked dues.Ping to = tt
own_asked dues.Pull to = tt

own_all : (what : ClientDue) (servers : List ℕ) (rest : List ClientInput) → AreOwn rest → AreOwn (map (asks_due what) servers ++ rest)
own_all what [] rest own = own
own_all what (to ∷ servers) rest own = (own_asked what to, own_all what servers rest own)

own_due : (due : List ClientDue) (handed : List ClientInput) → AsksAll due handed → AreOwn handed
own_due [] handed none = subst AreOwn (sym none) tt
own_due (what ∷ due) handed asks = subst AreOwn (sym asks.3) (own_all what asks.0 asks.1 (own_due due asks.1 asks.4))

-- ---- what is handed in

module _ (n k : ℕ) where
  abbrev Takes : List GroupMessage → GroupActor → Item → NodeView → List Frame → Type 0
  Takes left a input new frames = TakesFrom n (ClientOf k) Shown Stays left a input new frames

  abbrev HandsOver : List ℕ → NodeView → NodeView → List Frame → Type 0
  HandsOver item old new frames = lives.Hands n (ClientOf k) Shown Stays item old new frames

  abbrev HandsMany : List ℕ → NodeView → NodeView → List Frame → Type 0
  HandsMany item old new frames = lives.HandsAll n (ClientOf k) Shown Stays item old new frames

  -- the frames that came behind the others, with what was handed over
  record Adds (item : List ℕ) (old new : NodeView) (before after : List Frame) : Type 0 where
    frames : List Frame
    added : after ≡ before ++ frames
    over : HandsOver item old new frames
    stays : Stays old new

  module _ (old new : NodeView) (before after : List Frame) (at : old.agent.client.node.number ≡ k) (of : old.agent.size ≡ n) where
    step_at : (x : Agent) (input : agents.Input) (turn : agents.AgentTurn) → old.agent.client ≡ x → agents.step old.agent.size old.agent.client input ≡ Ok turn → agents.step n x input ≡ Ok turn
    step_at x input turn shown is = sym (λ i. agents.step (of i) (shown i) input) ∙ is

    own_taken : (input : agents.Input) → IsClientsOwn input → (steps : AgentSteps old.agent input new.agent before after) (a : GroupActor) → Shown old a → Takes [] a (OwnItem input) new steps.sent.frames
    own_taken input own steps (GroupServer s) shown = absurd shown
    own_taken input own steps (GroupClient x) shown = record {
      actor = GroupClient steps.turn.client;
      sent = map Service steps.turn.sent;
      fits = tt;
      takes = λ fits. client_own k x input steps.turn own (step_at x input steps.turn shown steps.step);
      shows = steps.client;
      carry = steps.sent.carry;
    }

    own_so : (item : List ℕ) (given : ClientInput) → IsOwn given → ClientSteps old.agent given new.agent before after → Adds item old new before after
    own_so item given own steps =
        let input = client_input given in
        let one = steps.taken input (own_reads old.agent.client.node.number given own) in
        let stays = steps_stay old new input before after steps.same one in
        record {
          frames = one.sent.frames;
          added = one.sent.added;
          over = takes_in (InputHanded (OwnItem input)) one.sent.frames stays tt (λ a shown. own_taken input (own_is given own) one a shown);
          stays = stays;
        }

    module _ (item : List ℕ) (steps : ClientSteps old.agent (inputs.Frame item) new.agent before after) where
      -- it is no refusal of the frame
      admitted : client_frame_refusal old.agent.size old.agent.client.node.number item ≡ None
      admitted = is_up_then (is_some old.agent.client.life) (client_frame_refusal old.agent.size old.agent.client.node.number item) steps.admitted

      to_it : (x : GroupMessage) → IsGroupFrame cluster_spec item x → IsResponse k x
      to_it x carries = response_so k x (is_receiver old.agent.size old.agent.client.node.number item x carries admitted ∙ ap actors.Client at)

      response_steps : (from : ℕ) (response : ClientResponse) → IsServiceFrame cluster_spec item (ToClient from k response) → AgentSteps old.agent (agents.Arrives from response) new.agent before after
      response_steps from response carries =
          steps.taken (agents.Arrives from response) (from, response, subst (λ c. IsServiceFrame cluster_spec item (ToClient from c response)) (sym at) carries, refl)

      response_taken : (frames : List Frame) → after ≡ before ++ frames → (y : Agent) (from : ℕ) (response : ClientResponse) → old.agent.client ≡ y → IsServiceFrame cluster_spec item (ToClient from k response)
          → Takes (Service (ToClient from k response) ∷ []) (GroupClient y) (Comes (Service (ToClient from k response))) new frames
      response_taken frames added y from response shown carries =
          let one = response_steps from response carries in
          let same : one.sent.frames ≡ frames = append_cancel_left before one.sent.frames frames (sym one.sent.added ∙ added) in
          record {
            actor = GroupClient one.turn.client;
            sent = map Service one.turn.sent;
            fits = tt;
            takes = λ fits. client_comes k y from response one.turn (0, refl) (step_at y (agents.Arrives from response) one.turn shown one.step);
            shows = one.client;
            carry = subst (λ l. AllZip (CarriesGroup cluster_spec) l (map Service one.turn.sent)) same one.sent.carry;
          }

      frame_taken : (frames : List Frame) → after ≡ before ++ frames → (a : GroupActor) (x : GroupMessage) → Shown old a → IsGroupFrame cluster_spec item x → Takes (x ∷ []) a (Comes x) new frames
      frame_taken frames added (GroupServer s) x shown carries = absurd shown
      frame_taken frames added (GroupClient y) x shown carries =
          let r = to_it x carries in
          subst (λ z. Takes (z ∷ []) (GroupClient y) (Comes z) new frames) (sym r.is) (response_taken frames added y r.from r.response shown (subst (IsGroupFrame cluster_spec item) r.is carries))

      frame_read : (read : Message State Command) → message_at cluster_spec item ≡ Ok read → IsFrame cluster_spec read item → Adds item old new before after
      frame_read read is there =
          let me = old.agent.client.node.number in
          let right : misdirected_to_client old.agent.size me read.from read.to ≡ None = sym (ap (unreadable_to_client old.agent.size me) is) ∙ admitted in
          let plain = no_install read.from read.to me read.body (read_here old.agent.size me read right) there.0.header_fits.1.1.1.1 in
          let some = some_message cluster_spec item read there plain in
          let r = to_it some.0 some.1 in
          let one = response_steps r.from r.response (subst (IsGroupFrame cluster_spec item) r.is some.1) in
          let stays = steps_stay old new (agents.Arrives r.from r.response) before after steps.same one in
          record {
            frames = one.sent.frames;
            added = one.sent.added;
            over = takes_in (FrameHanded item) one.sent.frames stays (refl, (read, there)) (λ a x shown carries. frame_taken one.sent.frames one.sent.added a x shown carries);
            stays = stays;
          }

      frame_so : IsBytes item → (r : Result (Message State Command) ℕ) → message_at cluster_spec item ≡ r → Adds item old new before after
      frame_so bytes (Ok read) is = frame_read read is (message_found cluster_spec cluster_lawful item read bytes is)
      frame_so bytes (Err place) is =
          let no : Some (refusals.Frame place) ≡ None = sym (ap (unreadable_to_client old.agent.size old.agent.client.node.number) is) ∙ admitted in
          absurd (cc no)

    refused_so : (item : List ℕ) → new.agent ≡ old.agent → after ≡ before → Adds item old new before after
    refused_so item same none = record {
      frames = [];
      added = none ∙ sym (append-nil before);
      over = declines (same_stay old new same) (same_shown old new same);
      stays = same_stay old new same;
    }

    given_so : (item : List ℕ) (given : ClientInput) (cause : Option Refusal) → IsOwn given → Hands old.agent given new.agent before after cause → Adds item old new before after
    given_so item given None own hands = own_so item given own hands.0
    given_so item given (Some cause) own hands = refused_so item hands.0 hands.2

    bytes_so : (item : List ℕ) (cause : Option Refusal) → IsBytes item → Hands old.agent (inputs.Frame item) new.agent before after cause → Adds item old new before after
    bytes_so item None bytes hands = frame_so item hands.0 bytes (message_at cluster_spec item) refl
    bytes_so item (Some cause) bytes hands = refused_so item hands.0 hands.2

  -- it has that agent at last, whatever else changed
  ends_so : (item : List ℕ) (old mid new : NodeView) (frames : List Frame) → new.agent ≡ mid.agent → HandsMany item old mid frames → HandsMany item old new frames
  ends_so item old mid new frames same all =
      subst (HandsMany item old new) (append-nil frames) (hands_more new [] all (declines (same_stay mid new same) (same_shown mid new same)))

  more_so : (item : List ℕ) (old mid new : NodeView) (before after : List Frame) → HandsMany item old mid before → Adds item mid new before after → HandsMany item old new after
  more_so item old mid new before after all one = subst (HandsMany item old new) (sym one.added) (hands_more new one.frames all one.over)

  many_so : (item : List ℕ) (old mid : NodeView) (before : List Frame) (given : List ClientInput) (new : NodeView) (after : List Frame) → mid.agent.client.node.number ≡ k → mid.agent.size ≡ n → AreOwn given
      → HandsAll mid.agent before given new.agent after → HandsMany item old mid before → HandsMany item old new after
  many_so item old mid before [] new after at of own rest all = ends_so item old mid new after rest.0 (subst (HandsMany item old mid) (sym rest.1) all)
  many_so item old mid before (one ∷ given) new after at of own rest all =
      let next : NodeView = record mid { agent = rest.0 } in
      let adds = given_so mid next before rest.1 at of item one rest.2 own.0 rest.3 in
      many_so item old next rest.1 given new after (ap (λ (node : NodeSpec). node.number) adds.stays.node ∙ at) (adds.stays.same_size ∙ of) own.1 rest.4 (more_so item old mid next before rest.1 all adds)

  went_so : (item : List ℕ) (old new : NodeView) (sent : List Frame) (told : Option Refusal) → IsBytes item → old.agent.client.node.number ≡ k → old.agent.size ≡ n → WentBy item old new [] sent told → HandsMany item old new sent
  went_so item old new sent told bytes at of (frame is hands same) = more_so item old old new [] sent hands_none (bytes_so old new [] sent at of item told bytes hands)
  went_so item old new sent told bytes at of (ended id well is hands same) = more_so item old old new [] sent hands_none (given_so old new [] sent at of item (inputs.End id well) told tt hands)
  went_so item old new sent told bytes at of (time ms handed is asks all same none) = many_so item old old [] handed new sent at of (own_due _ handed asks) all hands_none
  went_so item old new sent told bytes at of (unread a b c same none why) = more_so item old old new [] sent hands_none (refused_so old new [] sent at of item (λ i. (same i).agent) none)

  turn_so : (item : List ℕ) (old new : NodeView) (outs : List IoEvent) → old.agent.client.node.number ≡ k → old.agent.size ≡ n → Turn item old new outs → TurnHands n (ClientOf k) Shown Stays item old new outs
  turn_so item old new outs at of turn = record {
    frames = turn.sent;
    hands = went_so item old new turn.sent turn.told turn.bytes at of turn.went;
    outs_are = subst (λ l. AreSent l turn.sent) (sym turn.is) (outs_so old.agent new.agent turn.sent turn.told);
  }

-- ---- stores

-- what the store has is what its records stand for
reads_so : (header file : List ℕ) (ids : List AllocId) → IsStored header (Some (header ++ file)) ids → IsReadAs started_replay file ids
reads_so header file ids stored =
    let kept = stored.2 in
    let same : file ≡ stored.0 = append_cancel_left header file stored.0 stored.1 in
    subst (λ l. IsReadAs started_replay l ids) (sym same) (record { payloads = kept.payloads; tail = kept.tail; journal = kept.journal; part_is = kept.part_is })

pub runs_clients : (n : ℕ) (nodes : List NodeSpec) → RunsGroupClients size_of client_of n nodes (node_code n nodes)
runs_clients n nodes = record {
  turn = λ k item old new outs at of turn. turn_so n k item old new outs at of turn;
  member = λ k store w from. from.member;
  place = λ k store w from. from.place;
  within = λ k store w from. from.within;
  starts = λ k store w from. from.life;
  first = λ k w from. from.stored;
  reads = λ k file w from. reads_so (header_text n nodes k) file (started_by w) from.stored;
}
