-- The texts of transcripts: a line for the number of servers, one for each node, one for each event.
use Rattle.std.specs.Prelude.{◌≡◌, ◌≤◌, ℕ, suc, ◌⊎◌, List, [], ◌∷◌, ◌++◌, length, map, codes, decimal}
use Rattle.std.specs.List.{AllByRecursion, join_with_byte}
use Rattle.rows.specs.Fits.{NodeSpecFits}
use Rattle.rows.specs.declared.node.NodeSpec.{NodeSpec}
use Rattle.group_model.specs.Worlds.{Event}
use Rattle.group_inputs.specs.Events.{group_events}
use Rattle.rows.specs.GroupSizes.{IsGroup}
use Rattle.event_texts.specs.EventLines.{HasLine, event_line, IsEventLine, TakesMemory}
use Rattle.event_texts.specs.declared.transcript.Transcript.{Transcript}

abbrev pub servers_line : ℕ → List ℕ
servers_line n = join_with_byte 32 (codes "servers" ∷ decimal n ∷ [])

abbrev pub node_line : NodeSpec → List ℕ
node_line node =
    join_with_byte 32 (codes "node" ∷ decimal node.number ∷ node.class ∷ decimal node.size.cpu ∷ decimal node.size.mem ∷ decimal node.size.disk ∷ [])

-- lines, each ended by a newline
abbrev pub lines_text : List (List ℕ) → List ℕ
lines_text [] = []
lines_text (line ∷ lines) = line ++ 10 ∷ lines_text lines

-- a group's servers and nodes, and events
pub record Recorded : Type 0 where
  pub servers : ℕ
  pub nodes : List NodeSpec
  pub events : List Event

abbrev pub recorded_of : ℕ → List NodeSpec → List Event → Recorded
recorded_of servers nodes events = record { servers = servers; nodes = nodes; events = events }

-- what a transcript's value records
abbrev pub recorded : Transcript → Recorded
recorded t = record { servers = t.servers; nodes = t.nodes.items; events = group_events t.events.items }

abbrev pub transcript_lines : Recorded → List (List ℕ)
transcript_lines r = servers_line r.servers ∷ (map node_line r.nodes ++ map event_line r.events)

-- these nodes are within their limits, and numbered from k on
abbrev pub AreNumberedFrom : ℕ → List NodeSpec → Type 0
AreNumberedFrom k [] = Unit {0}
AreNumberedFrom k (node ∷ nodes) = NodeSpecFits node × (node.number ≡ k) × AreNumberedFrom (suc k) nodes

-- 3 or 5 servers, nodes in order, of which no number passes 64, and events that have lines
pub record CanBeWritten (r : Recorded) : Type 0 where
  pub servers : IsGroup r.servers
  pub nodes : AreNumberedFrom 1 r.nodes
  pub events : AllByRecursion HasLine r.events

-- the one text
pub record IsTranscript (r : Recorded) (text : List ℕ) : Type 0 where
  pub can : CanBeWritten r
  pub is : text ≡ lines_text (transcript_lines r)

-- ---- the place of the fault of bytes that are no transcript: the first byte of the first line that
-- may not stand where it does, or is not whole

-- the line of the next node, where no event came yet, or that of an event
abbrev pub MayFollow : Recorded → List ℕ → Type 0
MayFollow r line =
    ((node : NodeSpec) × NodeSpecFits node × (node.number ≡ suc (length r.nodes)) × (r.events ≡ []) × (line ≡ node_line node))
    ⊎ ((event : Event) × IsEventLine event line)

pub data IsFault (bytes : List ℕ) : ℕ → Type 0 where
  -- they do not begin with the line of a group
  at_first : ((n : ℕ) (behind : List ℕ) → IsGroup n → bytes ≡ servers_line n ++ 10 ∷ behind → ⊥) → IsFault bytes 0
  -- they begin with a transcript, and what is behind it, which is something, begins with no line
  -- that may follow
  at_line : (r : Recorded) (front rest : List ℕ) →
      IsTranscript r front → bytes ≡ front ++ rest → 1 ≤ length rest →
      ((line behind : List ℕ) → MayFollow r line → rest ≡ line ++ 10 ∷ behind → ⊥) → IsFault bytes (length front)

-- ---- where reading takes memory

-- A line behind a group's takes memory: it is the first node's or an event's, which is kept, or
-- reading it takes memory.
pub data IsKept (line : List ℕ) : Type 0 where
  of_node : (node : NodeSpec) → NodeSpecFits node → node.number ≡ 1 → line ≡ node_line node → IsKept line
  of_event : (event : Event) → IsEventLine event line → IsKept line
  of_reading : TakesMemory line → IsKept line

-- the text begins with such a line
pub record BeginsKept (text : List ℕ) : Type 0 where
  pub line : List ℕ
  pub behind : List ℕ
  pub kept : IsKept line
  pub is : text ≡ line ++ 10 ∷ behind

-- the bytes begin with a group's line, and then with such a line
pub record KeepsLines (bytes : List ℕ) : Type 0 where
  pub servers : ℕ
  pub lines : List ℕ
  pub group : IsGroup servers
  pub kept : BeginsKept lines
  pub is : bytes ≡ servers_line servers ++ 10 ∷ lines
