-- The queues of a net, and what it refuses.
use Rattle.std.specs.Prelude.{◌≡◌, ◌≤◌, ◌⊎◌, ℕ, List, [], ◌∷◌, map, ⊤}
use Rattle.std.specs.List.{Contains}
use Rattle.crossbeam_queue.specs.Passes.{queue_capacity}
use Rattle.rows.specs.declared.actor.Actor.{Actor}
use Rattle.rows.specs.declared.refusal.Refusal.{Refusal}
use Rattle.rows.specs.declared.refusal.Refusal.TheVariants.{NoMemory, OutOfRange, QueueFull}
use Rattle.lossy_net.specs.declared.net.Mailbox.{Mailbox}

-- what contracts see of a net: the actors that have a queue, and the capacity of each queue
pub record Queues : Type 0 where
  pub actors : List Actor
  pub capacities : List ℕ

-- the same, of a net's mailboxes
abbrev pub queues_of : {E : Type 0} → List (Mailbox E) → Queues
queues_of boxes = record {
  actors = map (λ m. m.actor) boxes;
  capacities = map (λ m. queue_capacity m.queue) boxes;
}

-- how many envelopes a queue may have room for
abbrev pub IsCapacity : ℕ → Type 0
IsCapacity capacity = (1 ≤ capacity) × (capacity ≤ 65536)

-- no actor stands in the list twice
abbrev pub AreNamedOnce : List Actor → Type 0
AreNamedOnce [] = ⊤
AreNamedOnce (actor ∷ actors) = (¬ Contains actors actor) × AreNamedOnce actors

-- there is a net of these actors and this capacity
abbrev pub HasNet : List Actor → ℕ → Type 0
HasNet actors capacity = IsCapacity capacity × AreNamedOnce actors

-- why none was made: there is none, or memory was wanting
abbrev pub NoNet : List Actor → ℕ → Refusal → Type 0
NoNet actors capacity refusal =
    ((refusal ≡ OutOfRange) × (¬ HasNet actors capacity)) ⊎ ((refusal ≡ NoMemory) × HasNet actors capacity)

-- why nothing was taken: the net has no such actor
abbrev pub TakeRefused : List Actor → Actor → Refusal → Type 0
TakeRefused actors actor refusal = (refusal ≡ OutOfRange) × (¬ Contains actors actor)

-- why an envelope was handed back: the net has no such actor, or has it, and its queue was full
abbrev pub PutRefused : List Actor → Actor → Refusal → Type 0
PutRefused actors actor refusal =
    ((refusal ≡ OutOfRange) × (¬ Contains actors actor))
    ⊎ ((refusal ≡ QueueFull) × Contains actors actor)
