-- Frames: the bytes of a message, and how they are read.
use Rattle.std.specs.Prelude.{◌≡◌, ℕ, ◌+◌, ◌^◌, Bool, true, false, List, [], ◌∷◌, ◌++◌, length, Result, Ok, Err, ◌&&◌, nat_eq, nat_le, if◌then◌else◌}
use Rattle.fields_model.specs.Format.{Reading, ◌>>=◌, Format, spelled, number_at}
use Rattle.rows.specs.declared.actor.Actor.{Actor}
use Rattle.machine_model.specs.MachineSpec.{MachineSpec}
use Rattle.wire.specs.declared.kind.Kind.{Kind}
use Rattle.wire.specs.declared.header.Header.{Header}
use Rattle.wire.specs.declared.body.Body.{Body}
use Rattle.wire.specs.declared.body.Body.TheVariants as bodies
use Rattle.wire.specs.Messages.{Message, kind_of, is_of_log, takes_memory}
use Rattle.wire.specs.Grammar.{kind, header, body}

-- no frame is longer
abbrev pub frame_limit : ℕ
frame_limit = 16777216

-- its length in four bytes, and a text
abbrev pub sized : List ℕ → List ℕ
sized text = spelled 4 (length text) ++ text

-- a header, and a body with its length
abbrev pub frame_text : {H B : Type 0} → Format H → (H → Format B) → H → B → List ℕ
frame_text head bodies h b = head.text h ++ sized ((bodies h).text b)

-- the length of the body is that of the bytes after it, and the frame is within the limit; else
-- this field is at fault
abbrev pub size_at : List ℕ → ℕ → Reading ℕ
size_at bytes at = number_at 4 0 (2 ^ 32) bytes at >>= λ n. if nat_eq (n.0 + 8) (length bytes) && nat_le (length bytes) frame_limit then Ok n else Err at

-- a header, the length, a body, and no byte more: one that is left over is a fault at the first of
-- them
abbrev pub frame_at : {H B M : Type 0} → Format H → (H → Format B) → (H → B → M) → List ℕ → Result M ℕ
frame_at head bodies make bytes =
    head.read bytes 0 >>= λ h.
    size_at bytes h.1 >>= λ size.
    (bodies h.0).read bytes size.1 >>= λ b.
    if nat_eq b.1 (length bytes) then Ok (make h.0 b.0) else Err b.1

abbrev pub header_of : {S C : Type 0} → Message S C → Header
header_of m = record { kind = kind_of m.body; from = m.from; to = m.to }

-- the one frame of a message
abbrev pub message_text : {S C : Type 0} → MachineSpec S C → Message S C → List ℕ
message_text spec m = frame_text header (λ h. body spec h.kind) (header_of m) m.body

-- the state of an Install has seen as many commands as its index says; of other bodies nothing is
-- asked
abbrev pub agrees : {S C : Type 0} → MachineSpec S C → Body S C → Bool
agrees spec (bodies.Install i) = nat_eq (spec.count i.state) i.head.index
agrees spec _ = true

-- which messages have a frame: each part is within its range, and the body agrees
pub record MessageFits {S C : Type 0} (spec : MachineSpec S C) (m : Message S C) : Type 0 where
  pub header_fits : header.Fits (header_of m)
  pub body_fits : (body spec (kind_of m.body)).Fits m.body
  pub agrees : agrees spec m.body ≡ true

-- the bytes are the frame of the message, which has one
abbrev pub IsFrame : {S C : Type 0} → MachineSpec S C → Message S C → List ℕ → Type 0
IsFrame spec m bytes = MessageFits spec m × (bytes ≡ message_text spec m)

-- the frame of the message, which has one, comes to the end of the bytes
abbrev pub AddsFrame : {S C : Type 0} → MachineSpec S C → Message S C → List ℕ → List ℕ → Type 0
AddsFrame spec m old new = MessageFits spec m × (new ≡ old ++ message_text spec m)

-- the message of a frame, or the place of its first fault; where all of the bytes are read, and the
-- body does not agree, its state is at fault, which begins at 32
unfoldable pub message_at : {S C : Type 0} → MachineSpec S C → List ℕ → Result (Message S C) ℕ
message_at spec bytes =
    frame_at header (λ h. body spec h.kind) (λ h b. record { from = h.from; to = h.to; body = b }) bytes
    >>= λ m. if agrees spec m.body then Ok m else Err 32

-- what was read is one of these kinds
abbrev pub reads_one_of : (Kind → Bool) → Reading Kind → Bool
reads_one_of kinds (Ok k) = kinds k.0
reads_one_of kinds (Err place) = false

-- the second byte is that of a kind by which servers keep one log
abbrev pub is_log_frame : List ℕ → Bool
is_log_frame bytes = reads_one_of is_of_log (kind.read bytes 1)

-- the second byte is that of a kind whose body takes memory
abbrev pub frame_takes_memory : List ℕ → Bool
frame_takes_memory bytes = reads_one_of takes_memory (kind.read bytes 1)

-- a frame on its way: its receiver and its bytes
pub record Frame : Type 0 where
  pub to : Actor
  pub bytes : List ℕ

abbrev pub frame_of : {S C : Type 0} → MachineSpec S C → Message S C → Frame
frame_of spec m = record { to = m.to; bytes = message_text spec m }

-- the frame of the message, which has one, comes to the end of the frames
abbrev pub ListsFrame : {S C : Type 0} → MachineSpec S C → Message S C → List Frame → List Frame → Type 0
ListsFrame spec m old new = MessageFits spec m × (new ≡ old ++ frame_of spec m ∷ [])
