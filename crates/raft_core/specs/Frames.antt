-- Messages between servers, and the frames that carry them.
use Rattle.std.specs.Prelude.{◌≡◌, ℕ, Option, Some, None, List, ◌++◌}
use Rattle.std.specs.List.{AllZip}
use Rattle.rows.specs.declared.actor.Actor.TheVariants.{Server}
use Rattle.machine_model.specs.MachineSpec.{MachineSpec}
use Rattle.machine_model.specs.declared.entry.Entry.{Entry}
use Rattle.wire.specs.Messages.{Message as WireMessage}
use Rattle.wire.specs.Frames.{Frame, MessageFits, message_text}
use Rattle.wire.specs.Installs.{Install as InstallOf}
use Rattle.wire.specs.declared.body.Body.{Body as WireBody}
use Rattle.wire.specs.declared.body.Body.TheVariants.{VoteRequest, VoteReply, Append, AppendReply, Install, InstallReply, Request, Response, Register, Heartbeat, Pull, Report, Told}
use Rattle.wire.specs.declared.body.Body.TheVariants as bodies
use Rattle.raft_model.specs.Messages.{Message}
use Rattle.raft_model.specs.Messages.{VoteRequest as VoteRequestBody, VoteReply as VoteReplyBody, Append as AppendBody, AppendReply as AppendReplyBody, Install as InstallBody, InstallReply as InstallReplyBody}
use Rattle.raft_snapshot.specs.Bases.{Base, IsBaseOf, noop_prefix}

-- what the frame of an Install says of the entries that it covers
abbrev pub base_of : {S : Type 0} → InstallOf S → Base S
base_of i = record { index = i.head.index; term = i.head.index_term; state = i.state }

-- The message of one server to another that the body of a frame shows, by which they keep one log:
-- of the entries that an Install covers it has blank ones. What workers, the leader's desk and
-- agents send is none.
abbrev pub log_message : {S C : Type 0} → MachineSpec S C → ℕ → ℕ → WireBody S C → Option (Message C)
log_message m from to (VoteRequest v) =
    Some (record { from = from; to = to; term = v.term; body = VoteRequestBody v.last_index v.last_term })
log_message m from to (VoteReply v) =
    Some (record { from = from; to = to; term = v.term; body = VoteReplyBody v.asked v.granted })
log_message m from to (Append a) =
    Some (record { from = from; to = to; term = a.head.term; body = AppendBody a.head.prev_index a.head.prev_term a.head.commit a.entries })
log_message m from to (AppendReply r) =
    Some (record { from = from; to = to; term = r.term; body = AppendReplyBody r.asked r.ok r.at })
log_message m from to (Install i) =
    Some (record { from = from; to = to; term = i.head.term; body = InstallBody (noop_prefix m i.head.index i.head.index_term) })
log_message m from to (InstallReply r) =
    Some (record { from = from; to = to; term = r.term; body = InstallReplyBody r.asked r.at })
log_message m from to (Request _) = None
log_message m from to (Response _) = None
log_message m from to (Register _ _) = None
log_message m from to Heartbeat = None
log_message m from to Pull = None
log_message m from to (bodies.List _ _) = None
log_message m from to (Report _) = None
log_message m from to (Told _ _) = None

-- a body says this message: an Install one that carries any list that its index, term and state are
-- of, each other body the one that it shows
abbrev pub Says : {S C : Type 0} → MachineSpec S C → ℕ → ℕ → WireBody S C → Message C → Type 0
Says {C = C} m from to (Install i) message =
    (covered : List (Entry C)) × IsBaseOf m (base_of i) covered
    × (message ≡ record { from = from; to = to; term = i.head.term; body = InstallBody covered })
Says m from to body message = log_message m from to body ≡ Some message

-- the message that is read from a frame may be this one
pub record Means {S C : Type 0} (m : MachineSpec S C) (read : WireMessage S C) (message : Message C) : Type 0 where
  pub from : read.from ≡ Server message.from
  pub to : read.to ≡ Server message.to
  pub said : Says m message.from message.to read.body message

-- the bytes are the message's frame
pub record IsFrameOf {S C : Type 0} (m : MachineSpec S C) (bytes : List ℕ) (message : Message C) : Type 0 where
  pub read : WireMessage S C
  pub fits : MessageFits m read
  pub text : bytes ≡ message_text m read
  pub means : Means m read message

-- a frame on its way carries the message, to its receiver
pub record FrameCarries {S C : Type 0} (m : MachineSpec S C) (frame : Frame) (message : Message C) : Type 0 where
  pub to : frame.to ≡ Server message.to
  pub bytes : IsFrameOf m frame.bytes message

-- to the frames that were there, those of the messages were added, one for one and in order, and
-- nothing else
pub record Sends {S C : Type 0} (m : MachineSpec S C) (before after : List Frame) (messages : List (Message C)) : Type 0 where
  pub frames : List Frame
  pub added : after ≡ before ++ frames
  pub carry : AllZip (FrameCarries m) frames messages
