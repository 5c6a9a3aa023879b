-- What contracts see of a group that runs.
use Rattle.std.specs.Prelude.{◌≡◌, ◌⊎◌, ℕ, ◌+◌, ◌-◌, ◌*◌, ◌^◌, min, List, length, replicate}
use Rattle.rows.specs.declared.actor.Actor.{Actor}
use Rattle.rows.specs.declared.refusal.Refusal.{Refusal}
use Rattle.rows.specs.declared.refusal.Refusal.TheVariants as refusals
use Rattle.rows.specs.declared.worker.Work.{Work}
use Rattle.lossy_net.specs.Queues.{IsCapacity, Queues}
use Rattle.cells.specs.declared.own_input.OwnInput.{OwnInput}
use Rattle.cells.specs.Cells.{EnvelopeView}
use Rattle.cells.specs.Opening.{CellGroup}
use Rattle.cells.specs.Turns.{TookTurn, own_envelope}

-- its cells; the queues of its messages; how many of a hundred are lost, and how many come twice;
-- and its gate
pub record RunningView (G : Type 0) : Type 0 where
  pub cells : CellGroup
  pub net : Queues
  pub drop : ℕ
  pub repeat : ℕ
  pub gate : G

-- a queue for each of these actors, each with room for so many messages
abbrev pub equal_queues : List Actor → ℕ → Queues
equal_queues all capacity = record {
  actors = all;
  capacities = replicate (length all) capacity;
}

-- why no group was made: its queues may not have this capacity, or they may, and memory was wanting
abbrev pub WhyNotRunning : ℕ → Refusal → Type 0
WhyNotRunning capacity r =
    (r ≡ refusals.OutOfRange) × (¬ IsCapacity capacity) ⊎ (r ≡ refusals.NoMemory) × IsCapacity capacity

-- in a group of n servers, a cell of this actor took a turn by this input
abbrev pub TookInput : ℕ → Actor → OwnInput → Type 0
TookInput n actor input =
    (work : List Work) × (sent : List EnvelopeView) × (unsent : ℕ)
    × TookTurn n (own_envelope actor input) work sent unsent

-- how many threads a group has: one for each actor, and so many for each server, as far as 64 bits
-- count
abbrev pub thread_count : CellGroup → ℕ → ℕ
thread_count cells workers =
    min (length cells.actors + min (cells.servers * workers) (2 ^ 64 - 1)) (2 ^ 64 - 1)
