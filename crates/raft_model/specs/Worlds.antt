-- The group, its events and its runs. The network loses, repeats, delays and reorders messages as
-- it likes, but alters none.
use Rattle.std.specs.Prelude.{◌≡◌, ℕ, ◌⊎◌, Option, Some, None, Result, Ok, Err, List, [], ◌∷◌, ◌++◌, length, replicate, slice_get, slice_set}
use Rattle.rows.specs.declared.refusal.Refusal.{Refusal}
use Rattle.rows.specs.declared.refusal.Refusal.TheVariants as refusals
use Rattle.machine_model.specs.MachineSpec.{MachineSpec, IsCommandOf}
use Rattle.raft_model.specs.Messages.{Message}
use Rattle.raft_model.specs.Rafts.{Raft, Leader, RaftTurn, newcomer}
use Rattle.raft_model.specs.Steps.{Input, Arrives, Timeout, Beat, Propose, Compact, Crash, Restart, step}

-- the servers, and all messages that were ever sent
pub record World (C : Type 0) : Type 0 where
  pub servers : List (Raft C)
  pub sent : List (Message C)

-- n servers before the first event, and no message
abbrev pub first : {C : Type 0} → ℕ → World C
first n = record { servers = replicate n newcomer; sent = [] }

-- The message at this place of all that were ever sent comes to its receiver; or a server takes an
-- input of its own. A loss is a message that never comes, a repeat one that comes twice.
pub data Event (C : Type 0) : Type 0 where
  -- places count from 0
  Deliver : (place : ℕ) → Event C
  TimesOut : (server : ℕ) → Event C
  Beats : (server : ℕ) → Event C
  Proposes : (server : ℕ) (command : C) → Event C
  Compacts : (server : ℕ) → Event C
  Crashes : (server : ℕ) → Event C
  Restarts : (server : ℕ) → Event C

-- what became of an event that was handed in
pub data Outcome : Type 0 where
  Kept : Outcome
  Crashed : Outcome
  LeftOut : (refusal : Refusal) → Outcome

module _ {S C : Type 0} (m : MachineSpec S C) where
  -- the world after a server's turn: that server alone changed, and what it sent was added
  abbrev pub after_turn : World C → ℕ → Result (RaftTurn C) Refusal → Result (World C) Refusal
  after_turn w i (Ok turn) = Ok (record { servers = slice_set w.servers i turn.server; sent = w.sent ++ turn.sent })
  after_turn w i (Err r) = Err r

  -- an input comes to server i, which is s, if there is one
  abbrev pub input_to : World C → ℕ → Input C → Option (Raft C) → Result (World C) Refusal
  input_to w i input None = Err refusals.OutOfRange
  input_to w i input (Some s) = after_turn w i (step m (length w.servers) i s input)

  -- server i takes an input
  abbrev pub takes : World C → ℕ → Input C → Result (World C) Refusal
  takes w i input = input_to w i input (slice_get w.servers i)

  -- the message comes to its receiver, if there is one
  abbrev pub delivers : World C → Option (Message C) → Result (World C) Refusal
  delivers w None = Err refusals.OutOfRange
  delivers w (Some message) = takes w message.to (Arrives message)

  -- one event: the next world, or the refusal of an event that changes nothing
  abbrev pub happens : World C → Event C → Result (World C) Refusal
  happens w (Deliver k) = delivers w (slice_get w.sent k)
  happens w (TimesOut i) = takes w i Timeout
  happens w (Beats i) = takes w i Beat
  happens w (Proposes i command) = takes w i (Propose command)
  happens w (Compacts i) = takes w i Compact
  happens w (Crashes i) = takes w i Crash
  happens w (Restarts i) = takes w i Restart

  -- what is proposed is a command of the machine
  abbrev pub IsEvent : Event C → Type 0
  IsEvent (Deliver k) = Unit {0}
  IsEvent (TimesOut i) = Unit {0}
  IsEvent (Beats i) = Unit {0}
  IsEvent (Proposes i command) = IsCommandOf m command
  IsEvent (Compacts i) = Unit {0}
  IsEvent (Crashes i) = Unit {0}
  IsEvent (Restarts i) = Unit {0}

  -- A run of n servers: its events, the worlds before the last one, and the last one.
  pub data Run (n : ℕ) : List (Event C) → List (World C) → World C → Type 0 where
    -- before the first event
    start : Run n [] [] (first n)
    -- one event more
    more : {events : List (Event C)} {past : List (World C)} {w : World C} (e : Event C) (next : World C) →
        Run n events past w → IsEvent e → happens w e ≡ Ok next → Run n (events ++ e ∷ []) (past ++ w ∷ []) next

  -- the server that takes the message
  abbrev pub receiver : Option (Message C) → Option ℕ
  receiver None = None
  receiver (Some message) = Some message.to

  -- the server that takes the event
  abbrev pub acting_server : World C → Event C → Option ℕ
  acting_server w (Deliver k) = receiver (slice_get w.sent k)
  acting_server w (TimesOut i) = Some i
  acting_server w (Beats i) = Some i
  acting_server w (Proposes i command) = Some i
  acting_server w (Compacts i) = Some i
  acting_server w (Crashes i) = Some i
  acting_server w (Restarts i) = Some i

  -- the event is a restart
  abbrev pub IsRestart : Event C → Type 0
  IsRestart (Deliver k) = ⊥
  IsRestart (TimesOut i) = ⊥
  IsRestart (Beats i) = ⊥
  IsRestart (Proposes i command) = ⊥
  IsRestart (Compacts i) = ⊥
  IsRestart (Crashes i) = ⊥
  IsRestart (Restarts i) = Unit {0}

  -- The event is refused; or it is a restart that could be, of a server that finds no memory: it
  -- stays down.
  abbrev pub IsLeftOut : World C → Event C → Refusal → Type 0
  IsLeftOut w e r = (happens w e ≡ Err r) ⊎ (IsRestart e × ((next : World C) × (happens w e ≡ Ok next)) × (r ≡ refusals.NoMemory))

  -- A list of events handed in, what became of each, and its trace: each event is kept, or is
  -- replaced by the crash of its actor, if that is up, or is left out with its refusal.
  pub data Trace (n : ℕ) : List (Event C) → List Outcome → List (Event C) → List (World C) → World C → Type 0 where
    nothing : Trace n [] [] [] [] (first n)
    kept : {events trace : List (Event C)} {outcomes : List Outcome} {past : List (World C)} {w : World C} (e : Event C) (next : World C) →
        Trace n events outcomes trace past w → IsEvent e → happens w e ≡ Ok next →
        Trace n (events ++ e ∷ []) (outcomes ++ Kept ∷ []) (trace ++ e ∷ []) (past ++ w ∷ []) next
    crashed : {events trace : List (Event C)} {outcomes : List Outcome} {past : List (World C)} {w : World C} (e : Event C) (i : ℕ) (next : World C) →
        Trace n events outcomes trace past w → acting_server w e ≡ Some i → happens w (Crashes i) ≡ Ok next →
        Trace n (events ++ e ∷ []) (outcomes ++ Crashed ∷ []) (trace ++ Crashes i ∷ []) (past ++ w ∷ []) next
    left_out : {events trace : List (Event C)} {outcomes : List Outcome} {past : List (World C)} {w : World C} (e : Event C) (r : Refusal) →
        Trace n events outcomes trace past w → IsLeftOut w e r →
        Trace n (events ++ e ∷ []) (outcomes ++ LeftOut r ∷ []) trace past w

-- the world at moment k of a run
abbrev pub moment : {C : Type 0} → List (World C) → World C → ℕ → Option (World C)
moment past w k = slice_get (past ++ w ∷ []) k

-- server i leads term t in this world
pub record Leads {C : Type 0} (w : World C) (i t : ℕ) : Type 0 where
  pub server : Raft C
  pub next : List ℕ
  pub match : List ℕ
  pub here : slice_get w.servers i ≡ Some server
  pub mode : server.mode ≡ Leader next match
  pub term : server.term ≡ t

-- no two servers ever lead one term
abbrev pub OneLeader : {C : Type 0} → List (World C) → World C → Type 0
OneLeader {C} past w = (k l : ℕ) (x y : World C) (i j t : ℕ) → moment past w k ≡ Some x → moment past w l ≡ Some y →
    Leads x i t → Leads y j t → i ≡ j
