-- What a node makes of the items of its input.
use Rattle.std.specs.Prelude.{◌≡◌, ◌≢◌, ⊤, ℕ, true, false, Option, None, List, [], ◌∷◌, map, codes, drop, Ok, Err}
use Rattle.rows.specs.Versions.{newest}
use Rattle.rows.specs.declared.refusal.Refusal.{Refusal}
use Rattle.rows.specs.declared.refusal.Refusal.TheVariants as refusals
use Rattle.fields_model.specs.Format.{IsBytes, whole}
use Rattle.machine_model.specs.MachineSpec.{MachineSpec}
use Rattle.wire.specs.Frames.{Frame, sized}
use Rattle.raft_model.specs.Rafts.{Raft}
use Rattle.raft_core.specs.Inputs.{Handed}
use Rattle.raft_core.specs.RaftView.{RaftView, SameNumber, SameRaft}
use Rattle.raft_core.specs.Refusals.{IsRefused, refusal}
use Rattle.raft_core.specs.Steps.{RefinesRaft, Takes}
use Rattle.raft_core.specs.Tickets.{IsTicket, proposal_status_of}
use Rattle.journal.specs.Events.{IoEvent, BytesSent, LineReported}
use Rattle.process_lives.specs.Servers.{CoversAll}
use Rattle.example_bank_server.specs.Items.{asked, ticket, is_proposal, is_question}
use Rattle.example_bank_server.specs.Lines.{Shows, refused_line, ticket_line, proposal_line, proposal_word}

-- each frame goes to the output, as an item
abbrev pub sends : List Frame → List IoEvent
sends frames = map (λ (frame : Frame). BytesSent (sized frame.bytes)) frames

module _ {S C : Type 0} (m : MachineSpec S C) where
  -- The server takes what the item asks, which it does not refuse, and these are the frames that it
  -- sends. It keeps its number, and what its snapshot covers is what it has no entries of.
  pub record IsTaken (item : List ℕ) (old new : RaftView S C) (frames : List Frame) : Type 0 where
    pub bytes : IsBytes item
    pub handed : Handed C
    pub is : asked m item ≡ Ok handed
    pub step : (s : Raft C) → RefinesRaft m old s → Takes m old s handed new [] frames
    pub admitted : (s : Raft C) → RefinesRaft m old s → refusal m old.size old.me s handed ≡ None
    pub same : SameNumber old new
    pub covers : old.server.covered ≡ old.base.index → CoversAll new

  -- why an item is refused: the command of a proposal or the ticket of a question is at fault, or
  -- the server refuses what it asks
  pub data MayRefuse (item : List ℕ) (view : RaftView S C) (cause : Refusal) : Type 0 where
    at_fault : (place : ℕ) → asked m item ≡ Err place → cause ≡ refusals.Frame place → MayRefuse item view cause
    no_ticket : (place : ℕ) → is_question item ≡ true → whole ticket (drop 1 item) ≡ Err place → cause ≡ refusals.Frame place → MayRefuse item view cause
    by_server : (handed : Handed C) → asked m item ≡ Ok handed
        → ((s : Raft C) → RefinesRaft m view s → IsRefused m view.size view.me s handed cause)
        → MayRefuse item view cause

  -- the same server, which may refuse the item so; of want of memory nothing is said
  abbrev pub IsDeclined : List ℕ → RaftView S C → RaftView S C → Refusal → Type 0
  IsDeclined item old new refusals.NoMemory = ⊤
  IsDeclined item old new cause = SameRaft old new × MayRefuse item old cause

  -- One item. Of what the server takes its frames are sent; of a proposal that it takes it is
  -- reported where the command stands, and of one that it refuses, or of any other item, why. It is
  -- shown for the item of the one byte S, and what it knows of a ticket is told for a question.
  pub data Turn (words : S → List ℕ) (reason : Refusal → Option (List ℕ)) (item : List ℕ) (old new : RaftView S C) (events : List IoEvent) : Type 0 where
    taken : (frames : List Frame) → item ≢ codes "S" → is_proposal item ≡ false → is_question item ≡ false → IsTaken item old new frames
        → events ≡ sends frames → Turn words reason item old new events
    proposed : (command : C) (index term : ℕ) → is_proposal item ≡ true → whole (m.commands newest) (drop 1 item) ≡ Ok command → IsTaken item old new []
        → ((s : Raft C) → RefinesRaft m new s → IsTicket s command index term)
        → events ≡ LineReported (ticket_line index term) ∷ [] → Turn words reason item old new events
    refused : (cause : Refusal) → item ≢ codes "S" → SameRaft old new → cause ≢ refusals.NoMemory
        → MayRefuse item old cause → events ≡ LineReported (refused_line reason cause) ∷ [] → Turn words reason item old new events
    shown : (line : List ℕ) → item ≡ codes "S" → new ≡ old → Shows m words old line
        → events ≡ LineReported line ∷ [] → Turn words reason item old new events
    told : (index term : ℕ) (word : List ℕ) → is_question item ≡ true → whole ticket (drop 1 item) ≡ Ok (index, term) → new ≡ old
        → ((s : Raft C) → RefinesRaft m old s → word ≡ proposal_word (proposal_status_of s index term))
        → events ≡ LineReported (proposal_line index term word) ∷ [] → Turn words reason item old new events
