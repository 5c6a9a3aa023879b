-- The frames of what servers and clients of a group send each other: of the log's messages, and of
-- those beside them.
use Rattle.std.specs.Prelude.{◌≡◌, ℕ, Option, Some, None, List, ◌++◌, length}
use Rattle.std.specs.List.{AllZip}
use Rattle.rows.specs.declared.actor.Actor.{Actor}
use Rattle.rows.specs.declared.actor.Actor.TheVariants.{Server, Client}
use Rattle.rows.specs.declared.command.Command.{Command}
use Rattle.machine_model.specs.MachineSpec.{MachineSpec}
use Rattle.machine_model.specs.declared.entry.Entry.{Entry}
use Rattle.wire.specs.Messages.{Message as WireMessage}
use Rattle.wire.specs.Frames.{Frame, MessageFits, IsFrame, message_text}
use Rattle.wire.specs.declared.body.Body.{Body}
use Rattle.wire.specs.declared.body.Body.TheVariants as bodies
use Rattle.raft_model.specs.Logs.{last_term, state_after}
use Rattle.raft_model.specs.Messages.{Message, Install}
use Rattle.raft_model.specs.Messages.{Body as Said}
use Rattle.raft_core.specs.Frames.{IsFrameOf}
use Rattle.group_model.specs.Messages.{GroupMessage, OfLog, Service, ServiceMessage, BetweenServers, ToServer, ToClient, Asks, Answers, Register, Heartbeat, Pull, ReportStates, Listing, Told}

-- what a body says beside the log's messages, from one actor to another
abbrev pub service_between : {S C : Type 0} → Actor → Actor → Body S C → Option ServiceMessage
service_between (Server from) (Server to) (bodies.Request request) = Some (BetweenServers from to (Asks request))
service_between (Server from) (Server to) (bodies.Response response) = Some (BetweenServers from to (Answers response))
service_between (Client client) (Server server) (bodies.Register class size) = Some (ToServer client server (Register class size))
service_between (Client client) (Server server) bodies.Heartbeat = Some (ToServer client server Heartbeat)
service_between (Client client) (Server server) bodies.Pull = Some (ToServer client server Pull)
service_between (Client client) (Server server) (bodies.Report items) = Some (ToServer client server (ReportStates items))
service_between (Server server) (Client client) (bodies.List index rows) = Some (ToClient server client (Listing index rows))
service_between (Server server) (Client client) (bodies.Told kind refused) = Some (ToClient server client (Told kind refused))
service_between _ _ _ = None

-- the message beside the log's that was read, if it is one
abbrev pub service_of : {S C : Type 0} → WireMessage S C → Option ServiceMessage
service_of read = service_between read.from read.to read.body

-- the bytes are the frame of a message beside the log's
pub record IsServiceFrame {S C : Type 0} (m : MachineSpec S C) (bytes : List ℕ) (message : ServiceMessage) : Type 0 where
  pub read : WireMessage S C
  pub fits : MessageFits m read
  pub text : bytes ≡ message_text m read
  pub means : service_of read ≡ Some message

-- the bytes are the message's frame
abbrev pub IsGroupFrame : {S : Type 0} → MachineSpec S Command → List ℕ → GroupMessage → Type 0
IsGroupFrame m bytes (OfLog message) = IsFrameOf m bytes message
IsGroupFrame m bytes (Service message) = IsServiceFrame m bytes message

-- who is to receive a message
abbrev pub service_receiver : ServiceMessage → Actor
service_receiver (BetweenServers from to message) = Server to
service_receiver (ToServer client server request) = Server server
service_receiver (ToClient server client response) = Client client

abbrev pub receiver_of : GroupMessage → Actor
receiver_of (OfLog message) = Server message.to
receiver_of (Service message) = service_receiver message

-- a frame on its way carries the message, to its receiver
pub record CarriesGroup {S : Type 0} (m : MachineSpec S Command) (frame : Frame) (message : GroupMessage) : Type 0 where
  pub to : frame.to ≡ receiver_of message
  pub bytes : IsGroupFrame m frame.bytes message

-- to the frames that were there, those of the messages were added, one for one and in order, and
-- nothing else
pub record SendsGroup {S : Type 0} (m : MachineSpec S Command) (before after : List Frame) (messages : List GroupMessage) : Type 0 where
  pub frames : List Frame
  pub added : after ≡ before ++ frames
  pub carry : AllZip (CarriesGroup m) frames messages

-- ---- the laws

-- Two Installs of one frame, which has of the entries that they cover the number, the last one's
-- term and the state after them: the entries themselves may be others.
pub record SameInstall {S C : Type 0} (m : MachineSpec S C) (x y : Message C) (a b : List (Entry C)) : Type 0 where
  pub from : x.from ≡ y.from
  pub to : x.to ≡ y.to
  pub term : x.term ≡ y.term
  pub index : length a ≡ length b
  pub last : last_term a ≡ last_term b
  pub state : state_after m a ≡ state_after m b

-- two messages of the log, of these bodies, are one, but for the entries that Installs cover
abbrev pub SameSaid : {S C : Type 0} → MachineSpec S C → Message C → Message C → Said C → Said C → Type 0
SameSaid m x y (Install a) (Install b) = SameInstall m x y a b
SameSaid m x y _ _ = x ≡ y

-- two messages of the group are
abbrev pub SameButCovered : {S : Type 0} → MachineSpec S Command → GroupMessage → GroupMessage → Type 0
SameButCovered m (OfLog x) (OfLog y) = SameSaid m x y x.body y.body
SameButCovered m x y = x ≡ y

-- a frame is of one message at most, but for the entries that an Install covers
abbrev pub FramesAreOfOne : {S : Type 0} → MachineSpec S Command → Type 0
FramesAreOfOne m =
    (bytes : List ℕ) (x y : GroupMessage)
    → IsGroupFrame m bytes x → IsGroupFrame m bytes y → SameButCovered m x y

-- a body is not that of an Install
abbrev pub IsNoInstall : {S C : Type 0} → Body S C → Type 0
IsNoInstall (bodies.Install i) = ⊥
IsNoInstall _ = Unit {0}

-- A frame that can be read is of some message, but that an Install may have a state that no entries
-- lead to: its frame is of no message.
abbrev pub FramesAreOfSome : {S : Type 0} → MachineSpec S Command → Type 0
FramesAreOfSome {S} m =
    (bytes : List ℕ) (read : WireMessage S Command) → IsFrame m read bytes → IsNoInstall read.body
    → (message : GroupMessage) × IsGroupFrame m bytes message

-- a message has one frame at most
abbrev pub MessagesHaveOneFrame : {S : Type 0} → MachineSpec S Command → Type 0
MessagesHaveOneFrame m =
    (message : GroupMessage) (a b : List ℕ)
    → IsGroupFrame m a message → IsGroupFrame m b message → a ≡ b
