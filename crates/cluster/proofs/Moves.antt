-- What a step of an actor in its cell is in a world of the group's definitions, where the same was
-- sent.
use Rattle.std.proofs.Common.{◌≡◌, ℕ, true, false, if◌then◌else◌, is_some, Option, Some, None, Ok, List, [], map, length, refl, sym, ap, ◌∙◌, subst, slice_get}
use Rattle.std.specs.List.{AllZip}
use Rattle.rows.specs.declared.actor.Actor.{Actor}
use Rattle.rows.specs.declared.actor.Actor.TheVariants as actors
use Rattle.rows.specs.declared.command.Command.{Command}
use Rattle.rows.specs.declared.worker.Work.{Work}
use Rattle.wire.specs.Messages.{Message as WireMessage}
use Rattle.wire.specs.Frames.{MessageFits, message_at, message_text}
use Rattle.raft_model.specs.Rafts.{is_up, silent, crashed}
use Rattle.raft_model.specs.Steps.{Crash as LogCrash, step as log_step}
use Rattle.fsm_model.specs.Words.{State}
use Rattle.fsm_model.specs.ClusterMachine.{cluster_spec}
use Rattle.group_model.specs.Messages.{Service}
use Rattle.group_model.specs.Inputs as inputs
use Rattle.group_model.specs.Servers as servers
use Rattle.group_model.specs.Servers.{Server}
use Rattle.group_model.specs.Agents as agents
use Rattle.group_model.specs.Agents.{Agent, Life}
use Rattle.group_model.specs.Worlds.{World, Event, Deliver, AtServer, AtClient, happens, after_turn, after_client, input_to, client_input_to, client_at}
use Rattle.group_safety.proofs.Lists.{get_map}
use Rattle.group_frames.specs.GroupFrames.{CarriesGroup, SendsGroup}
use Rattle.client_agent.specs.AgentView.{AgentView}
use Rattle.group_inputs.specs.declared.client_input.ClientInput.{ClientInput}
use Rattle.group_inputs.specs.declared.client_input.ClientInput.TheVariants as client_inputs
use Rattle.server.specs.ServerViews.{ServerView, RefinesServer, crashed_server}
use Rattle.group_inputs.specs.Handings.{Handing, FrameBytes, OwnInput as TakesOwn, handing}
use Rattle.server.specs.SentBytes.{bytes_of}
use Rattle.actor.specs.Handed.{comes_as_frame, is_client_frame}
use Rattle.actor.specs.Answers.{nothing_sent, ServerCrashed, ClientCrashed}
use Rattle.world.specs.Inner.GroupInputs.{IsSentTo}
use Rattle.world.proofs.GroupScenes.{ServerTakes, ClientTakes}
use Rattle.world.proofs.GroupOwn.{own_server, own_client}
use Rattle.world.proofs.GroupDeliveries.{sent_to_server, sent_to_client}
use Rattle.event_book.specs.declared.view.EventView.{EventView}
use Rattle.event_book.specs.declared.view.EventView.TheVariants.{Own, Delivery, Crash}
use Rattle.event_book.specs.declared.view.Output.{Output}
use Rattle.cells.specs.declared.own_input.OwnInput.{OwnInput}
use Rattle.cells.specs.declared.own_input.OwnInput.TheVariants as own
use Rattle.cells.specs.Actors.{output_frame, ServerTurned, TakesInput, ServerTurns, ClientTurned, TakesClientInput, ClientTurns}
use Rattle.cluster.proofs.CellWorlds.{Brings}

-- a frame is read as the message whose frame it is
abbrev pub ReadsAgain : Type 0
ReadsAgain = (y : WireMessage State Command) → MessageFits cluster_spec y →
    message_at cluster_spec (message_text cluster_spec y) ≡ Ok y

-- ---- what was sent

-- an output that was sent is a frame for its receiver
sent_to : (sent : List Output) (k : ℕ) (to : Actor) (frame : List ℕ) →
    slice_get sent k ≡ Some (record { to = to; frame = frame }) → IsSentTo (map output_frame sent) k to
sent_to sent k to frame at =
    record {
      frame = record { to = to; bytes = frame };
      at = get_map output_frame sent k _ at;
      is_to = refl;
    }

bytes_are : (sent : List Output) (k : ℕ) (to : Actor) (frame : List ℕ) →
    slice_get sent k ≡ Some (record { to = to; frame = frame }) →
    frame ≡ bytes_of (slice_get (map output_frame sent) k)
bytes_are sent k to frame at = sym (ap bytes_of (get_map output_frame sent k _ at))

-- ---- crashes

server_crash : (n i : ℕ) (m : Server) → is_up m.raft.mode ≡ true →
    servers.step n i m inputs.Crash
    ≡ Ok (record { server = crashed_server m; sent = []; work = [] })
server_crash n i m up =
    let crash : log_step cluster_spec n i m.raft LogCrash ≡ Ok (silent (crashed m.raft)) =
    rw up refl in
    ap (λ b. servers.done n i m
    (if b then servers.acts n i m inputs.Crash else servers.wakes m inputs.Crash)) up
    ∙ ap (λ r. servers.logged m (inputs.asks inputs.AskCrash m.desk) r) crash

client_crash : (n : ℕ) (x : Agent) (o : Option Life) → is_some o ≡ true →
    agents.step_of n x o agents.Crash
    ≡ Ok (record { client = record x { life = None }; sent = [] })
client_crash n x None up = absurd (cc)
client_crash n x (Some l) up = refl

-- ---- what an event is in a world

-- server i takes a turn, which sends these outputs, and has the view `new` then
pub record ServerMoves (w : World) (e : Event) (i : ℕ) (new : ServerView) (outputs : List Output)
    : Type 0 where
  pub turn : servers.ServerTurn
  pub goes : happens w e ≡ after_turn w i (Ok turn)
  pub me : new.raft.me ≡ i
  pub size : new.raft.size ≡ length w.servers
  pub server : RefinesServer new turn.server
  pub sends : SendsGroup cluster_spec [] (map output_frame outputs) turn.sent

-- an input of its own that is taken is no frame
input_is
    : (old : ServerView) (h : Handing) (outputs : List Output) (work : List Work)
    (new : ServerView) → TakesInput old h outputs work new →
    (comes_as_frame h ≡ false) × ServerTurned old h outputs work new
input_is old (FrameBytes bytes) outputs work new t = absurd t
input_is old (TakesOwn input) outputs work new t = (refl, t)

-- so does client k
pub record ClientMoves (w : World) (e : Event) (k : ℕ) (new : AgentView) (outputs : List Output)
    : Type 0 where
  pub turn : agents.AgentTurn
  pub goes : happens w e ≡ after_client w k (Ok turn)
  pub size : new.size ≡ length w.servers
  pub client : new.client ≡ turn.client
  pub sends : SendsGroup cluster_spec [] (map output_frame outputs) (map Service turn.sent)

client_input_is
    : (old : AgentView) (given : ClientInput) (outputs : List Output) (new : AgentView) →
    TakesClientInput old given outputs new →
    (is_client_frame given ≡ false) × ClientTurned old given outputs new
client_input_is old (client_inputs.Frame bytes) outputs new t = absurd t
client_input_is old (client_inputs.Register server) outputs new t = (refl, t)
client_input_is old (client_inputs.Ping server) outputs new t = (refl, t)
client_input_is old (client_inputs.Pull server) outputs new t = (refl, t)
client_input_is old (client_inputs.End id ok) outputs new t = (refl, t)
client_input_is old client_inputs.Crash outputs new t = (refl, t)
client_input_is old client_inputs.Restart outputs new t = (refl, t)

-- ---- the steps

module _ (again : ReadsAgain) (sent : List Output) (w : World)
    (z : AllZip (CarriesGroup cluster_spec) (map output_frame sent) w.sent) where
  module _ (i : ℕ) (m : Server) (old : ServerView) (here : slice_get w.servers i ≡ Some m)
      (me : old.raft.me ≡ i) (size : old.raft.size ≡ length w.servers) (is : RefinesServer old m)
      (new : ServerView) (outputs : List Output) where
    takes_handing : (e : Event) (h : Handing) (work : List Work) → ServerTakes old h w e i m →
        ServerTurned old h outputs work new → ServerMoves w e i new outputs
    takes_handing e h work takes t =
        let q = takes.taken new nothing_sent (record { frames = map output_frame outputs; work = work })
        (t.taken m is) in
        record {
          turn = q.turn;
          goes = takes.happens ∙ ap (λ r. after_turn w i r) q.is;
          me = t.same.0 ∙ me;
          size = t.same.1 ∙ size;
          server = q.server;
          sends = q.sent;
        }

    falls : outputs ≡ [] → ServerCrashed old new →
        ServerMoves w (AtServer i inputs.Crash) i new outputs
    falls none t =
        let f = t.fell m is in
        record {
          turn = record { server = crashed_server m; sent = []; work = [] };
          goes = ap (λ o. input_to w i inputs.Crash o) here
              ∙ ap (λ r. after_turn w i r) (server_crash (length w.servers) i m f.0);
          me = t.same.0 ∙ me;
          size = t.same.1 ∙ size;
          server = f.1;
          sends = record { frames = []; added = ap (map output_frame) none; carry = tt };
        }

    pub server_moves : (event : EventView OwnInput) (work : List Work) (e : Event) →
        Brings sent (actors.Server i) event e → ServerTurns old event outputs work new →
        ServerMoves w e i new outputs
    server_moves (Own (own.Server input)) work e brings t =
        let q = input_is old (handing input.value) outputs work new t in
        subst (λ f. ServerMoves w f i new outputs) (sym brings)
        (takes_handing _ (handing input.value) work
        (own_server old input.value w i m me size here q.0) q.1)
    server_moves (Own (own.Client input)) work e brings t = absurd t
    server_moves (Delivery stamp place frame) work e brings t =
        let k = brings.0 in
        let frames = map output_frame sent in
        let bytes = bytes_are sent k (actors.Server i) frame brings.2 in
        subst (λ f. ServerMoves w f i new outputs) (sym brings.1)
        (takes_handing (Deliver k) (FrameBytes (bytes_of (slice_get frames k))) work
        (sent_to_server again old frames k w i m z
        (sent_to sent k (actors.Server i) frame brings.2) me size here)
        (subst (λ b. ServerTurned old (FrameBytes b) outputs work new) bytes t))
    server_moves Crash work e brings t =
        subst (λ f. ServerMoves w f i new outputs) (sym brings) (falls t.0 t.2)

  module _ (k : ℕ) (x : Agent) (here : client_at w.clients k ≡ Some x) (number : x.node.number ≡ k)
      (new : AgentView) (outputs : List Output) where
    abbrev agent : AgentView
    agent = record { size = length w.servers; client = x }

    takes_given : (e : Event) (given : ClientInput) → ClientTakes agent given w e k →
        ClientTurned agent given outputs new → ClientMoves w e k new outputs
    takes_given e given takes t =
        let q = takes.taken new [] (map output_frame outputs) t.taken in
        record {
          turn = q.turn;
          goes = takes.happens ∙ ap (λ r. after_client w k r) q.is;
          size = t.same;
          client = q.client;
          sends = q.sent;
        }

    client_falls : outputs ≡ [] → ClientCrashed agent new →
        ClientMoves w (AtClient k agents.Crash) k new outputs
    client_falls none t = record {
      turn = record { client = record x { life = None }; sent = [] };
      goes = ap (λ o. client_input_to w k agents.Crash o) here
          ∙ ap (λ r. after_client w k r) (client_crash (length w.servers) x x.life t.0);
      size = ap (λ (a : AgentView). a.size) t.1;
      client = ap (λ (a : AgentView). a.client) t.1;
      sends = record { frames = []; added = ap (map output_frame) none; carry = tt };
    }

    pub client_moves : (event : EventView OwnInput) (e : Event) →
        Brings sent (actors.Client k) event e → ClientTurns agent event outputs new →
        ClientMoves w e k new outputs
    client_moves (Own (own.Server input)) e brings t = absurd t
    client_moves (Own (own.Client input)) e brings t =
        let q = client_input_is agent input.value outputs new t in
        subst (λ f. ClientMoves w f k new outputs) (sym brings)
        (takes_given _ input.value (own_client agent input.value w k here refl q.0) q.1)
    client_moves (Delivery stamp place frame) e brings t =
        let j = brings.0 in
        let frames = map output_frame sent in
        let bytes = bytes_are sent j (actors.Client k) frame brings.2 in
        subst (λ f. ClientMoves w f k new outputs) (sym brings.1)
        (takes_given (Deliver j) (client_inputs.Frame (bytes_of (slice_get frames j)))
        (sent_to_client again agent frames j w k z
        (sent_to sent j (actors.Client k) frame brings.2) number refl here)
        (subst (λ b. ClientTurned agent (client_inputs.Frame b) outputs new) bytes t))
    client_moves Crash e brings t =
        subst (λ f. ClientMoves w f k new outputs) (sym brings) (client_falls t.0 t.1)
