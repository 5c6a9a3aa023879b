-- Servers and clients of a group as such processes: what code of both kinds is, and what makes it
-- that.
use Rattle.std.specs.Prelude.{◌≡◌, ◌<◌, ⊤, ℕ, Option, Some, None, List, [], ◌∷◌, ◌++◌}
use Rattle.std.specs.Prelude.{option_map}
use Rattle.std.specs.List.{AllZip}
use Rattle.rows.specs.Fits.{NodeSpecFits}
use Rattle.rows.specs.declared.node.NodeSpec.{NodeSpec}
use Rattle.rows.specs.declared.allocation.AllocId.{AllocId}
use Rattle.rows.specs.declared.command.Command.{Command}
use Rattle.fsm_model.specs.ClusterMachine.{cluster_spec}
use Rattle.fsm_model.specs.Words.{State}
use Rattle.raft_model.specs.Rafts.{Raft, restarted}
use Rattle.group_model.specs.Agents.{Agent, new_life}
use Rattle.group_model.specs.Inputs.{Arrives}
use Rattle.group_model.specs.Messages.{GroupMessage, Service}
use Rattle.group_model.specs.Servers.{Server}
use Rattle.group_model.specs.Worlds.{agents_from, client_at}
use Rattle.group_safety.specs.Limits.{InputFits}
use Rattle.raft_snapshot.specs.Stored.{Stored}
use Rattle.wire.specs.Frames.{Frame, IsFrame, sized}
use Rattle.wire.specs.Messages.{Message}
use Rattle.raft_core.specs.RaftView.{RaftView, SameNumber}
use Rattle.raft_core.specs.Steps.{RefinesRaft, Stores}
use Rattle.raft_core.specs.StoredParts.{stored_part}
use Rattle.group_frames.specs.GroupFrames.{CarriesGroup, IsGroupFrame}
use Rattle.journal.specs.Events.{IoEvent, BytesSent, LineReported}
use Rattle.journal.specs.Replays.{Replay}
use Rattle.processes.specs.Processes.{System, Execution, told_by}
use Rattle.processes.specs.Claims.{OccursIn}
use Rattle.processes.specs.Logs.{nothing_persistent, started}
use Rattle.processes.specs.Groups.{Who, ServerOf, ClientOf, GroupActor, GroupServer, GroupClient}
use Rattle.processes.specs.Groups.{Item, Comes, ServerInput, ClientInput, ProposalFits}
use Rattle.processes.specs.Groups.{GroupTakes, group_actors}
use Rattle.processes.specs.Headline.{KeepsPromises}
use Rattle.process_lives.specs.Lives.{Code, Past, HasDone, IsReadAs}
use Rattle.process_lives.specs.Joined.{IsOfTurn, IsOutput}
use Rattle.process_lives.specs.Servers.{CoversAll}

-- ---- items

-- the item is the frame of a message
abbrev pub IsFrameItem : List ℕ → Type 0
IsFrameItem item = (message : Message State Command) × IsFrame cluster_spec message item

-- the frame carries the message
abbrev pub CarriesFrame : List ℕ → GroupMessage → Type 0
CarriesFrame bytes message = IsGroupFrame cluster_spec bytes message

-- what is sent is no item that is a frame
abbrev pub IsNoFrame : List ℕ → Type 0
IsNoFrame bytes = (item : List ℕ) → bytes ≡ sized item → IsFrameItem item → ⊥

-- These frames are sent, each as an item and in order. What else is sent is no frame, and the rest
-- is reported.
pub data AreSent : List IoEvent → List Frame → Type 0 where
  sent_none : AreSent [] []
  sends_frame : {events : List IoEvent} {frames : List Frame} (frame : Frame) →
      AreSent events frames → AreSent (BytesSent (sized frame.bytes) ∷ events) (frame ∷ frames)
  sends_answer : {events : List IoEvent} {frames : List Frame} (bytes : List ℕ) →
      IsNoFrame bytes → AreSent events frames → AreSent (BytesSent bytes ∷ events) frames
  reports : {events : List IoEvent} {frames : List Frame} (line : List ℕ) →
      AreSent events frames → AreSent (LineReported line ∷ events) frames

-- ---- turns

-- what is handed to an actor: the bytes of a frame, or an input of its own
pub data Handed : Type 0 where
  FrameHanded : (bytes : List ℕ) → Handed
  InputHanded : (input : Item) → Handed

abbrev pub IsOwn : Item → Type 0
IsOwn (Comes message) = ⊥
IsOwn (ServerInput input) = ⊤
IsOwn (ClientInput input) = ⊤

-- an item is handed in as a frame where it is one
abbrev pub MayMean : List ℕ → Handed → Type 0
MayMean item (FrameHanded bytes) = (bytes ≡ item) × IsFrameItem item
MayMean item (InputHanded input) = IsOwn input

-- an input of a server's own is within its limits
abbrev pub ItemFits : Item → Type 0
ItemFits (Comes message) = ⊤
ItemFits (ServerInput input) = InputFits input
ItemFits (ClientInput input) = ⊤

-- what an actor proposes by it, if it does, is a command within the limits
abbrev pub WhatItProposesFits : ℕ → Who → GroupActor → Item → Type 0
WhatItProposesFits n (ServerOf i) (GroupServer s) (Comes (Service message)) =
    ProposalFits n i s (Arrives message)
WhatItProposesFits n (ServerOf i) (GroupServer s) (ServerInput input) = ProposalFits n i s input
WhatItProposesFits n _ _ _ = ⊤

-- n: the servers of the group; k: whose process it is; Shows: the actor that a value of the code
-- may be; Stays: what an old and a new value have in common
module _ (n : ℕ) (k : Who) {V : Type 0} (Shows : V → GroupActor → Type 0)
    (Stays : V → V → Type 0) where
  -- Where these messages had left the actor takes the input, which is within its limits, and the
  -- new value is what it is then; and these frames are those of what it sends, one for one and in
  -- order. That it proposes nothing past the limits need not be shown: so it is in each execution.
  pub record TakesFrom (left : List GroupMessage) (a : GroupActor) (input : Item) (new : V)
      (frames : List Frame) : Type 0 where
    pub actor : GroupActor
    pub sent : List GroupMessage
    pub fits : ItemFits input
    pub takes : WhatItProposesFits n k a input → GroupTakes n left k a input actor sent
    pub shows : Shows new actor
    pub carry : AllZip (CarriesGroup cluster_spec) frames sent

  -- so each actor does that the old value may be, and of a frame with each message whose it is
  abbrev pub TakesHanded : V → Handed → V → List Frame → Type 0
  TakesHanded old (FrameHanded bytes) new frames = (a : GroupActor) (x : GroupMessage) →
      Shows old a → CarriesFrame bytes x → TakesFrom (x ∷ []) a (Comes x) new frames
  TakesHanded old (InputHanded input) new frames = (a : GroupActor) →
      Shows old a → TakesFrom [] a input new frames

  -- what is handed in is refused, and it is the same actor; or it is taken
  pub data Hands (item : List ℕ) (old new : V) : List Frame → Type 0 where
    declines : Stays old new → ((a : GroupActor) → Shows old a → Shows new a) →
        Hands item old new []
    takes_in : (handed : Handed) (frames : List Frame) → Stays old new → MayMean item handed →
        TakesHanded old handed new frames → Hands item old new frames

  -- one thing after the other, or nothing
  pub data HandsAll (item : List ℕ) (old : V) : V → List Frame → Type 0 where
    hands_none : HandsAll item old old []
    hands_more : {mid : V} {frames : List Frame} (new : V) (more : List Frame) →
        HandsAll item old mid frames → Hands item mid new more →
        HandsAll item old new (frames ++ more)

  -- what an item comes to
  pub record TurnHands (item : List ℕ) (old new : V) (outs : List IoEvent) : Type 0 where
    pub frames : List Frame
    pub hands : HandsAll item old new frames
    pub outs_are : AreSent outs frames

-- ---- servers

-- raft: its part of the log; Shows: the servers of the definitions that a value may be
module _ {V : Type 0} (raft : V → RaftView State Command) (Shows : V → Server → Type 0) where
  abbrev pub ShowsServer : V → GroupActor → Type 0
  ShowsServer v (GroupServer s) = Shows v s
  ShowsServer v (GroupClient x) = ⊥

  -- it has the same number, in a group as large; and its snapshot covers what its base does
  pub record StaysServer (old new : V) : Type 0 where
    pub same : SameNumber (raft old) (raft new)
    pub based : (raft old).server.covered ≡ (raft old).base.index → CoversAll (raft new)

  -- code of servers, which stores its part of the log
  abbrev pub group_server_code : Replay (Stored State Command) →
      (List ℕ → V → V → List IoEvent → Type 0) → (ℕ → Option (List ℕ) → V → Type 0) →
      (ℕ → List ℕ) → Code ℕ V (Stored State Command)
  group_server_code replay Turn BeginsWith header = record {
    replay = λ k. replay;
    part = λ v. stored_part (raft v);
    Turn = Turn;
    BeginsWith = BeginsWith;
    header = header;
    IsFrame = IsFrameItem;
  }

  -- each part of what makes code a server's of a group of n
  pub record RunsGroupServers (n : ℕ) (c : Code ℕ V (Stored State Command)) : Type 0 where
    pub refines : (v : V) (s : Server) → Shows v s → RefinesRaft cluster_spec (raft v) s.raft
    pub turn : (k : ℕ) (item : List ℕ) (old new : V) (outs : List IoEvent) →
        (raft old).me ≡ k → (raft old).size ≡ n → c.Turn item old new outs →
        TurnHands n (ServerOf k) ShowsServer StaysServer item old new outs
    pub member : (k : ℕ) (store : Option (List ℕ)) (v : V) → c.BeginsWith k store v → k < n
    pub place : (k : ℕ) (store : Option (List ℕ)) (v : V) → c.BeginsWith k store v →
        ((raft v).me ≡ k) × ((raft v).size ≡ n)
    -- whatever stands in its store, it begins with that, and with no desk
    pub starts : (k : ℕ) (store : Option (List ℕ)) (v : V) → c.BeginsWith k store v →
        (s : Raft Command) → Stores cluster_spec (stored_part (raft v)) s →
        Shows v (record { raft = restarted s; desk = None })
    pub first : (k : ℕ) (v : V) → c.BeginsWith k None v →
        Stores cluster_spec (stored_part (raft v)) (started nothing_persistent)
    pub reads : (k : ℕ) (file : List ℕ) (v : V) → c.BeginsWith k (Some (c.header k ++ file)) v →
        IsReadAs (c.replay k) file (c.part v)

-- ---- clients

-- this is the node of client k
abbrev pub IsNodeOf : List NodeSpec → ℕ → NodeSpec → Type 0
IsNodeOf nodes k node =
    (x : Agent) × (client_at (agents_from 1 nodes) k ≡ Some x) × (node ≡ x.node)

-- size: how many servers its group has; agent: the client that it is
module _ {W : Type 0} (size : W → ℕ) (agent : W → Agent) where
  abbrev pub ShowsClient : W → GroupActor → Type 0
  ShowsClient w (GroupServer s) = ⊥
  ShowsClient w (GroupClient x) = agent w ≡ x

  pub record StaysClient (old new : W) : Type 0 where
    pub same_size : size new ≡ size old
    pub node : (agent new).node ≡ (agent old).node

  -- code of clients, which stores the ids that it ever started
  abbrev pub group_client_code : Replay (List AllocId) →
      (List ℕ → W → W → List IoEvent → Type 0) → (ℕ → Option (List ℕ) → W → Type 0) →
      (ℕ → List ℕ) → Code ℕ W (List AllocId)
  group_client_code replay Turn BeginsWith header = record {
    replay = λ k. replay;
    part = λ w. (agent w).started;
    Turn = Turn;
    BeginsWith = BeginsWith;
    header = header;
    IsFrame = IsFrameItem;
  }

  -- each part of what makes code a client's, of a group of n servers and these nodes
  pub record RunsGroupClients (n : ℕ) (nodes : List NodeSpec) (c : Code ℕ W (List AllocId)) :
      Type 0 where
    pub turn : (k : ℕ) (item : List ℕ) (old new : W) (outs : List IoEvent) →
        (agent old).node.number ≡ k → size old ≡ n → c.Turn item old new outs →
        TurnHands n (ClientOf k) ShowsClient StaysClient item old new outs
    pub member : (k : ℕ) (store : Option (List ℕ)) (w : W) → c.BeginsWith k store w →
        IsNodeOf nodes k (agent w).node
    pub place : (k : ℕ) (store : Option (List ℕ)) (w : W) → c.BeginsWith k store w →
        ((agent w).node.number ≡ k) × (size w ≡ n)
    pub within : (k : ℕ) (store : Option (List ℕ)) (w : W) → c.BeginsWith k store w →
        NodeSpecFits (agent w).node
    -- of a former life it knows what it started, and nothing else
    pub starts : (k : ℕ) (store : Option (List ℕ)) (w : W) → c.BeginsWith k store w →
        (agent w).life ≡ Some new_life
    pub first : (k : ℕ) (w : W) → c.BeginsWith k None w → (agent w).started ≡ []
    pub reads : (k : ℕ) (file : List ℕ) (w : W) → c.BeginsWith k (Some (c.header k ++ file)) w →
        IsReadAs (c.replay k) file (c.part w)

-- ---- both

-- what one of two kinds has: a server, or a client
pub data ByKind (X Y : Type 0) : Type 0 where
  ForServer : (its : X) → ByKind X Y
  ForClient : (its : Y) → ByKind X Y

-- payloads that stand for what the one kind stores stand for what one of the two does
abbrev pub after_server : {P Q : Type 0} → Replay P → (ByKind P Q) → List ℕ → Option (ByKind P Q)
after_server r (ForServer p) payload = option_map ForServer (r.after p payload)
after_server r (ForClient q) payload = None

abbrev pub after_client : {P Q : Type 0} → Replay Q → (ByKind P Q) → List ℕ → Option (ByKind P Q)
after_client r (ForServer p) payload = None
after_client r (ForClient q) payload = option_map ForClient (r.after q payload)

abbrev pub replay_of_servers : {P Q : Type 0} → Replay P → Replay (ByKind P Q)
replay_of_servers r = record {
  whole = λ payload. option_map ForServer (r.whole payload);
  after = after_server r;
}

abbrev pub replay_of_clients : {P Q : Type 0} → Replay Q → Replay (ByKind P Q)
replay_of_clients r = record {
  whole = λ payload. option_map ForClient (r.whole payload);
  after = after_client r;
}

module _ {V W P Q : Type 0} (servers : Code ℕ V P) (clients : Code ℕ W Q) where
  abbrev pub replay_of : Who → Replay (ByKind P Q)
  replay_of (ServerOf i) = replay_of_servers (servers.replay i)
  replay_of (ClientOf c) = replay_of_clients (clients.replay c)

  abbrev pub part_of : ByKind V W → ByKind P Q
  part_of (ForServer v) = ForServer (servers.part v)
  part_of (ForClient w) = ForClient (clients.part w)

  abbrev pub TurnOf : List ℕ → ByKind V W → ByKind V W → List IoEvent → Type 0
  TurnOf item (ForServer old) (ForServer new) outs = servers.Turn item old new outs
  TurnOf item (ForClient old) (ForClient new) outs = clients.Turn item old new outs
  TurnOf item (ForServer old) (ForClient new) outs = ⊥
  TurnOf item (ForClient old) (ForServer new) outs = ⊥

  abbrev pub BeginsAs : Who → Option (List ℕ) → ByKind V W → Type 0
  BeginsAs (ServerOf i) store (ForServer v) = servers.BeginsWith i store v
  BeginsAs (ServerOf i) store (ForClient w) = ⊥
  BeginsAs (ClientOf c) store (ForServer v) = ⊥
  BeginsAs (ClientOf c) store (ForClient w) = clients.BeginsWith c store w

  abbrev pub header_of : Who → List ℕ
  header_of (ServerOf i) = servers.header i
  header_of (ClientOf c) = clients.header c

  -- a process is a server's or a client's, and each runs its own code
  abbrev pub group_code : Code Who (ByKind V W) (ByKind P Q)
  group_code = record {
    replay = replay_of;
    part = part_of;
    Turn = TurnOf;
    BeginsWith = BeginsAs;
    header = header_of;
    IsFrame = IsFrameItem;
  }

-- the actor of the definitions that a value of the code may be
abbrev pub ShowsActor : {V W : Type 0} → (V → Server → Type 0) → (W → Agent) → Who → ByKind V W →
    GroupActor → Type 0
ShowsActor Shows agent (ServerOf i) (ForServer v) (GroupServer s) = Shows v s
ShowsActor Shows agent (ClientOf c) (ForClient w) (GroupClient x) = agent w ≡ x
ShowsActor Shows agent _ _ _ = ⊥

-- There is an execution of the group's processes that keeps what is promised, such that all that
-- was sent or reported is of a turn of an actor that was told in it, before the turn and after it.
pub record HeadlineOfLives {V W P Q : Type 0} (n : ℕ) (nodes : List NodeSpec)
    (Shows : V → Server → Type 0) (agent : W → Agent) (c : Code Who (ByKind V W) (ByKind P Q))
    (past : Past Who) : Type 0 where
  pub before : List (System (group_actors n nodes))
  pub last : System (group_actors n nodes)
  pub execution : Execution (group_actors n nodes) before last
  pub keeps : KeepsPromises n nodes before last
  pub outputs : (k : Who) (event : IoEvent) → IsOutput event → HasDone past k event →
      IsOfTurn c (group_actors n nodes) (ShowsActor Shows agent) CarriesFrame k
      (λ a. OccursIn last.told (told_by (group_actors n nodes) k a)) event
