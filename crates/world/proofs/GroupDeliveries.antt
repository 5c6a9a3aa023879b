-- A frame that was sent and comes, as an event of the group.
use Rattle.std.proofs.Common.{◌≡◌, ℕ, Bool, true, false, if◌then◌else◌, is_some, Option, Some, None, Ok, Err, List, length, refl, sym, ap, ◌∙◌, subst, slice_get}
use Rattle.std.proofs.lemmas.Bool.{lt-ltb, eq-eqb}
use Rattle.std.proofs.lemmas.Option.{same_Some}
use Rattle.std.specs.List.{AllZip}
use Rattle.rows.specs.declared.actor.Actor.{Actor}
use Rattle.rows.specs.declared.actor.Actor.TheVariants as actors
use Rattle.rows.specs.declared.command.Command.{Command}
use Rattle.rows.specs.declared.refusal.Refusal.{Refusal}
use Rattle.rows.specs.declared.refusal.Refusal.TheVariants as refusals
use Rattle.wire.specs.Messages.{Message as WireMessage}
use Rattle.wire.specs.Frames.{Frame, MessageFits, message_at, message_text}
use Rattle.wire.specs.declared.body.Body.{Body}
use Rattle.wire.specs.declared.body.Body.TheVariants as bodies
use Rattle.raft_model.specs.Rafts.{is_up}
use Rattle.raft_core.specs.Refusals.{is_server_of, is_server_at}
use Rattle.fsm_model.specs.Words.{State}
use Rattle.fsm_model.specs.ClusterMachine.{cluster_spec}
use Rattle.group_model.specs.Messages.{GroupMessage, OfLog, Service, ServiceMessage, BetweenServers, ToServer, ToClient, ClientResponse}
use Rattle.group_model.specs.Inputs as inputs
use Rattle.group_model.specs.Agents as agents
use Rattle.group_model.specs.Agents.{Agent, Life}
use Rattle.group_model.specs.Servers.{Server}
use Rattle.group_model.specs.Worlds.{World, Deliver, AtServer, delivers, delivers_message, message_to, input_to, after_turn, client_input_to, client_at, crash_of_message}
use Rattle.group_safety.specs.Claims.{IsFromMember}
use Rattle.group_frames.specs.GroupFrames.{IsGroupFrame, IsServiceFrame, CarriesGroup, service_between, service_receiver, receiver_of}
use Rattle.group_inputs.specs.declared.client_input.ClientInput.TheVariants as client_inputs
use Rattle.client_agent.specs.AgentView.{AgentView}
use Rattle.client_agent.specs.Refusals.{is_client_at, unreadable_to_client, client_frame_refusal}
use Rattle.server.specs.ServerViews.{ServerView}
use Rattle.group_inputs.specs.Handings.{FrameBytes}
use Rattle.server.specs.SentBytes.{bytes_of}
use Rattle.server.specs.Steps.{TakesTurn, takes_in}
use Rattle.server.specs.Refusals.{is_of_group, read_refusal, bytes_refusal}
use Rattle.world.specs.GroupWork.{message_work, log_work, input_work, turn_work}
use Rattle.world.specs.GroupView.{IsSentTo}
use Rattle.world.proofs.Zips.{zip_at}
use Rattle.world.proofs.GroupScenes.{ServerTakes, ClientTakes}
use Rattle.world.proofs.GroupOwn.{turned}

pub same_server : {a b : ℕ} → actors.Server a ≡ actors.Server b → a ≡ b
same_server h = cc

same_client : {a b : ℕ} → actors.Client a ≡ actors.Client b → a ≡ b
same_client h = cc

-- ---- the message that comes

-- the message at this place is for this actor, and the frame there is its frame
pub record Comes (frames : List Frame) (place : ℕ) (w : World) (to : Actor) : Type 0 where
  pub message : GroupMessage
  pub at : slice_get w.sent place ≡ Some message
  pub is_to : receiver_of message ≡ to
  pub bytes : IsGroupFrame cluster_spec (bytes_of (slice_get frames place)) message

pub comes : (frames : List Frame) (place : ℕ) (w : World) (to : Actor) → AllZip (CarriesGroup cluster_spec) frames w.sent → IsSentTo frames place to → Comes frames place w to
comes frames place w to z sent =
    let x = zip_at (CarriesGroup cluster_spec) frames w.sent place sent.frame z sent.at in
    let c = x.2 in
    record {
      message = x.0;
      at = x.1;
      is_to = sym c.to ∙ sent.is_to;
      bytes = subst (λ o. IsGroupFrame cluster_spec (bytes_of o) x.0) (sym sent.at) c.bytes;
    }

-- ---- its bytes

abbrev service_sender : ServiceMessage → Actor
service_sender (BetweenServers from to message) = actors.Server from
service_sender (ToServer client server request) = actors.Client client
service_sender (ToClient server client response) = actors.Server server

abbrev sender_of : GroupMessage → Actor
sender_of (OfLog message) = actors.Server message.from
sender_of (Service message) = service_sender message

-- a message beside the log's goes from and to whom it says
record Goes (from to : Actor) (x : ServiceMessage) : Type 0 where
  from_is : from ≡ service_sender x
  to_is : to ≡ service_receiver x

goes_so : (from to : Actor) (y x : ServiceMessage) → Goes from to y → (let o : Option ServiceMessage = Some y in o ≡ Some x) → Goes from to x
goes_so from to y x g is = subst (λ m. Goes from to m) (same_Some y x is) g

goes : (from to : Actor) (body : Body State Command) (x : ServiceMessage) → service_between from to body ≡ Some x → Goes from to x
goes (actors.Server i) (actors.Server j) (bodies.Request request) x is = goes_so (actors.Server i) (actors.Server j) _ x (record { from_is = refl; to_is = refl }) is
goes (actors.Server i) (actors.Server j) (bodies.Response response) x is = goes_so (actors.Server i) (actors.Server j) _ x (record { from_is = refl; to_is = refl }) is
goes (actors.Server i) (actors.Server j) _ x is = absurd (cc is)
goes (actors.Client c) (actors.Server j) (bodies.Register class size) x is = goes_so (actors.Client c) (actors.Server j) _ x (record { from_is = refl; to_is = refl }) is
goes (actors.Client c) (actors.Server j) bodies.Heartbeat x is = goes_so (actors.Client c) (actors.Server j) _ x (record { from_is = refl; to_is = refl }) is
goes (actors.Client c) (actors.Server j) bodies.Pull x is = goes_so (actors.Client c) (actors.Server j) _ x (record { from_is = refl; to_is = refl }) is
goes (actors.Client c) (actors.Server j) (bodies.Report items) x is = goes_so (actors.Client c) (actors.Server j) _ x (record { from_is = refl; to_is = refl }) is
goes (actors.Client c) (actors.Server j) _ x is = absurd (cc is)
goes (actors.Server i) (actors.Client c) (bodies.List index rows) x is = goes_so (actors.Server i) (actors.Client c) _ x (record { from_is = refl; to_is = refl }) is
goes (actors.Server i) (actors.Client c) (bodies.Told kind refused) x is = goes_so (actors.Server i) (actors.Client c) _ x (record { from_is = refl; to_is = refl }) is
goes (actors.Server i) (actors.Client c) _ x is = absurd (cc is)
goes (actors.Client c) (actors.Client d) _ x is = absurd (cc is)

-- the bytes are read as the message
record ReadAs (bytes : List ℕ) (x : GroupMessage) : Type 0 where
  read : WireMessage State Command
  is : message_at cluster_spec bytes ≡ Ok read
  from_is : read.from ≡ sender_of x
  to_is : read.to ≡ receiver_of x

sender_in : (n : ℕ) (x : GroupMessage) → IsFromMember n x → is_of_group n (sender_of x) ≡ true
sender_in n (OfLog message) from = lt-ltb message.from n from
sender_in n (Service (BetweenServers from to message)) inside = lt-ltb from n inside
sender_in n (Service (ToServer client server request)) inside = refl
sender_in n (Service (ToClient server client response)) inside = lt-ltb server n inside

module _ (again : (y : WireMessage State Command) → MessageFits cluster_spec y → message_at cluster_spec (message_text cluster_spec y) ≡ Ok y) where
  reads : (bytes : List ℕ) (x : GroupMessage) → IsGroupFrame cluster_spec bytes x → ReadAs bytes x
  reads bytes (OfLog message) f = record { read = f.read; is = ap (λ t. message_at cluster_spec t) f.text ∙ again f.read f.fits; from_is = f.means.from; to_is = f.means.to }
  reads bytes (Service message) f =
      let g = goes f.read.from f.read.to f.read.body message f.means in
      record { read = f.read; is = ap (λ t. message_at cluster_spec t) f.text ∙ again f.read f.fits; from_is = g.from_is; to_is = g.to_is }

  -- what was sent to this server is not refused for its bytes
  readable : (n me : ℕ) (bytes : List ℕ) (x : GroupMessage) → IsGroupFrame cluster_spec bytes x → IsFromMember n x → receiver_of x ≡ actors.Server me → bytes_refusal n me bytes ≡ None
  readable n me bytes x f from to =
      let r = reads bytes x f in
      let sender : is_of_group n r.read.from ≡ true = ap (λ a. is_of_group n a) r.from_is ∙ sender_in n x from in
      let receiver : is_server_at me r.read.to ≡ true = ap (λ a. is_server_at me a) (r.to_is ∙ to) ∙ eq-eqb me me refl in
      ap (λ q. read_refusal n me q) r.is ∙ rw (sender, receiver) refl

  -- nor what was sent to this client
  readable_to_client : (n me from : ℕ) (response : ClientResponse) (bytes : List ℕ) → IsGroupFrame cluster_spec bytes (Service (ToClient from me response)) → IsFromMember n (Service (ToClient from me response)) → client_frame_refusal n me bytes ≡ None
  readable_to_client n me from response bytes f inside =
      let r = reads bytes (Service (ToClient from me response)) f in
      let sender : is_server_of n r.read.from ≡ true = ap (λ a. is_server_of n a) r.from_is ∙ lt-ltb from n inside in
      let receiver : is_client_at me r.read.to ≡ true = ap (λ a. is_client_at me a) r.to_is ∙ eq-eqb me me refl in
      ap (λ q. unreadable_to_client {S = State} n me q) r.is ∙ rw (sender, receiver) refl

-- so it is refused by an actor that is down alone
down_alone : (up : Bool) (o : Option Refusal) (r : Refusal) → o ≡ None → (if up then o else Some refusals.Down) ≡ Some r → (up ≡ false) × (refusals.Down ≡ r)
down_alone true o r none h = absurd (let e : None ≡ Some r = sym none ∙ h in cc)
down_alone false o r none h = (refl, same_Some refusals.Down r h)

-- ---- what comes to a server

-- in this world the message's coming is that server i takes it
pub record IsFor (w : World) (i : ℕ) (s : Server) (x : GroupMessage) : Type 0 where
  pub happens : delivers_message w x ≡ after_turn w i (takes_in (length w.servers) i s x)
  pub work : message_work w (Some x) ≡ turn_work (takes_in (length w.servers) i s x)
  pub crash : crash_of_message (Some x) ≡ Some (AtServer i inputs.Crash)

module _ (w : World) (i : ℕ) (s : Server) (here : slice_get w.servers i ≡ Some s) where
  for_input : (x : ServiceMessage) (j : ℕ) → j ≡ i → delivers_message w (Service x) ≡ input_to w j (inputs.Arrives x) (slice_get w.servers j) → message_work w (Some (Service x)) ≡ input_work w j (inputs.Arrives x) (slice_get w.servers j) → crash_of_message (Some (Service x)) ≡ Some (AtServer j inputs.Crash) → IsFor w i s (Service x)
  for_input x j same happens work crash = record {
    happens = happens ∙ ap (λ k. input_to w k (inputs.Arrives x) (slice_get w.servers k)) same ∙ ap (λ o. input_to w i (inputs.Arrives x) o) here;
    work = work ∙ ap (λ k. input_work w k (inputs.Arrives x) (slice_get w.servers k)) same ∙ ap (λ o. input_work w i (inputs.Arrives x) o) here;
    crash = crash ∙ ap (λ k. Some (AtServer k inputs.Crash)) same;
  }

  pub is_for : (x : GroupMessage) → receiver_of x ≡ actors.Server i → IsFor w i s x
  is_for (OfLog message) to =
      let same : message.to ≡ i = same_server to in
      record {
        happens = ap (λ k. message_to w k message (slice_get w.servers k)) same ∙ ap (λ o. message_to w i message o) here;
        work = ap (λ k. log_work w k message (slice_get w.servers k)) same ∙ ap (λ o. log_work w i message o) here;
        crash = ap (λ k. Some (AtServer k inputs.Crash)) same;
      }
  is_for (Service (BetweenServers from j message)) to = for_input (BetweenServers from j message) j (same_server to) refl refl refl
  is_for (Service (ToServer client j request)) to = for_input (ToServer client j request) j (same_server to) refl refl refl
  is_for (Service (ToClient j client response)) to = absurd (cc to)

pub down_takes : (n i : ℕ) (s : Server) (x : GroupMessage) → is_up s.raft.mode ≡ false → takes_in n i s x ≡ Err refusals.Down
down_takes n i s (OfLog message) down = rw down refl
down_takes n i s (Service message) down = rw down refl

pub sent_to_server : ((y : WireMessage State Command) → MessageFits cluster_spec y → message_at cluster_spec (message_text cluster_spec y) ≡ Ok y) →
    (view : ServerView) (frames : List Frame) (place : ℕ) (w : World) (i : ℕ) (s : Server) → AllZip (CarriesGroup cluster_spec) frames w.sent → IsSentTo frames place (actors.Server i) →
    view.raft.me ≡ i → view.raft.size ≡ length w.servers → slice_get w.servers i ≡ Some s → ServerTakes view (FrameBytes (bytes_of (slice_get frames place))) w (Deliver place) i s
sent_to_server again view frames place w i s z sent me size here =
    let c = comes frames place w (actors.Server i) z sent in
    let x = c.message in
    let n = length w.servers in
    let f = is_for w i s here x c.is_to in
    record {
      turns = takes_in n i s x;
      happens = ap (λ o. delivers w o) c.at ∙ f.happens;
      taken = λ new before after t.
          subst (λ j. TakesTurn (takes_in n j s x) new before after) me
          (subst (λ k. TakesTurn (takes_in k view.raft.me s x) new before after) size (t x c.bytes));
      work = ap (λ o. message_work w o) c.at ∙ f.work;
      crash = ap (λ o. crash_of_message o) c.at ∙ f.crash;
      wants = λ may. tt;
      refuses = λ senders r h.
          let d = down_alone (is_up s.raft.mode) (bytes_refusal n i (bytes_of (slice_get frames place))) r (readable again n i _ x c.bytes (senders place x c.at) c.is_to) h in
          down_takes n i s x d.0 ∙ ap (λ e. Err e) d.1;
      restart = λ so. absurd (cc);
      wakes = λ so. absurd (cc);
    }

-- ---- what comes to a client

pub for_client : (x : GroupMessage) (c : ℕ) → receiver_of x ≡ actors.Client c → (from : ℕ) × (response : ClientResponse) × (x ≡ Service (ToClient from c response))
for_client (OfLog message) c to = absurd (cc to)
for_client (Service (BetweenServers from j message)) c to = absurd (cc to)
for_client (Service (ToServer client j request)) c to = absurd (cc to)
for_client (Service (ToClient from client response)) c to = (from, response, ap (λ k. Service (ToClient from k response)) (same_client to))

pub down_hears : (n : ℕ) (c : Agent) (life : Option Life) (from : ℕ) (response : ClientResponse) → is_some life ≡ false → agents.step_of n c life (agents.Arrives from response) ≡ Err refusals.Down
down_hears n c None from response down = refl
down_hears n c (Some l) from response down = absurd (cc down)

pub sent_to_client : ((y : WireMessage State Command) → MessageFits cluster_spec y → message_at cluster_spec (message_text cluster_spec y) ≡ Ok y) →
    (view : AgentView) (frames : List Frame) (place : ℕ) (w : World) (c : ℕ) → AllZip (CarriesGroup cluster_spec) frames w.sent → IsSentTo frames place (actors.Client c) →
    view.client.node.number ≡ c → view.size ≡ length w.servers → client_at w.clients c ≡ Some view.client → ClientTakes view (client_inputs.Frame (bytes_of (slice_get frames place))) w (Deliver place) c
sent_to_client again view frames place w c z sent number size here =
    let m = comes frames place w (actors.Client c) z sent in
    let n = length w.servers in
    let bytes = bytes_of (slice_get frames place) in
    let q = for_client m.message c m.is_to in
    let at : slice_get w.sent place ≡ Some (Service (ToClient q.0 c q.1)) = m.at ∙ ap (λ x. Some x) q.2 in
    let frame : IsGroupFrame cluster_spec bytes (Service (ToClient q.0 c q.1)) = subst (λ x. IsGroupFrame cluster_spec bytes x) q.2 m.bytes in
    let input : agents.Input = agents.Arrives q.0 q.1 in
    record {
      turns = agents.step n view.client input;
      happens = ap (λ o. delivers w o) at ∙ ap (λ o. client_input_to w c input o) here;
      taken = λ new before after t. turned view w c here size input new before after
          (t input (q.0, q.1, subst (λ k. IsServiceFrame cluster_spec bytes (ToClient q.0 k q.1)) (sym number) frame, refl));
      work = ap (λ o. message_work w o) at;
      crash = ap (λ o. crash_of_message o) at;
      wants = λ may. tt;
      refuses = λ senders r h.
          let inside : client_frame_refusal n c bytes ≡ None = readable_to_client again n c q.0 q.1 bytes frame (senders place (Service (ToClient q.0 c q.1)) at) in
          let known : client_frame_refusal view.size view.client.node.number bytes ≡ None =
          subst (λ k. client_frame_refusal k view.client.node.number bytes ≡ None) (sym size) (subst (λ k. client_frame_refusal n k bytes ≡ None) (sym number) inside) in
          let d = down_alone (is_some view.client.life) (client_frame_refusal view.size view.client.node.number bytes) r known h in
          down_hears n view.client view.client.life q.0 q.1 d.0 ∙ ap (λ e. Err e) d.1;
    }
