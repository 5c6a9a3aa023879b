-- A round: one server stands or beats, and each other that is up gets what it sent and answers.
use Rattle.std.specs.Prelude.{◌≡◌, ◌≢◌, ℕ, suc, ◌+◌, ◌-◌, ◌*◌, ◌<◌, ◌≤◌, ◌⊎◌, Bool, true, false, Some, Ok, List, [], ◌∷◌, ◌++◌, length, nat_lt, if◌then◌else◌, slice_get}
use Rattle.machine_model.specs.MachineSpec.{MachineSpec}
use Rattle.machine_model.specs.declared.entry.Entry.{Entry}
use Rattle.raft_model.specs.Logs.{MAX}
use Rattle.raft_model.specs.Messages.{Message}
use Rattle.raft_model.specs.Quorums.{Quorum}
use Rattle.raft_model.specs.Rafts.{Raft, is_up, is_leader}
use Rattle.raft_model.specs.Worlds.{World, Event, Deliver, TimesOut, Beats, Leads, IsRestart, acting_server, happens}
use Rattle.raft_progress.specs.Recovery.{Recovery, HasRoom}
use Rattle.raft_progress.specs.Peace.{Peace, Answered, Rounds}
use Rattle.raft_progress.specs.Calm.{Calm, HasBestLog, NobodyAhead}
use Rattle.recovery.specs.Runs.{is_up_in, events_of}

-- the same servers are up
abbrev pub SameUp : {C : Type 0} → World C → World C → Type 0
SameUp x y = (k : ℕ) → is_up_in y k ≡ is_up_in x k

-- a server later on: it has the same log and leads if it led, or it came to lead and has one entry
-- more
abbrev pub Once : {C : Type 0} → Raft C → Raft C → Type 0
Once {C} s t = ((t.log ≡ s.log) × (is_leader t.mode ≡ is_leader s.mode))
    ⊎ ((is_leader s.mode ≡ false) × (is_leader t.mode ≡ true) × ((e : Entry C) × (t.log ≡ s.log ++ e ∷ [])))

-- so of server i, from one world to another
abbrev pub OnceIn : {C : Type 0} → ℕ → World C → World C → Type 0
OnceIn {C} i x y = (s t : Raft C) → slice_get x.servers i ≡ Some s → slice_get y.servers i ≡ Some t → Once s t

module _ {S C : Type 0} (m : MachineSpec S C) (Q : ℕ → Bool) (i since : ℕ) where
  -- in between the message at this place is delivered, and so is its answer
  pub record Swapped (place : ℕ) (y x : World C) : Type 0 where
    pub at_request : World C
    pub after_request : World C
    pub at_answer : World C
    pub after_answer : World C
    pub to_request : Calm m Q i since y at_request
    pub request_delivered : happens m at_request (Deliver place) ≡ Ok after_request
    pub to_answer : Calm m Q i since after_request at_answer
    pub answer : ℕ
    pub answer_new : length at_request.sent ≤ answer
    pub answer_sent : answer < length after_request.sent
    pub answer_delivered : happens m at_answer (Deliver answer) ≡ Ok after_answer
    pub to_end : Calm m Q i since after_answer x
    pub through_request : Calm m Q i since y after_request
    pub through_answer : Calm m Q i since y after_answer
    pub since_request : Calm m Q i since after_request x

  -- so it was with each message to a member of Q below this place
  pub record Going (y : World C) (place : ℕ) (x : World C) : Type 0 where
    pub calm : Calm m Q i since y x
    pub up : SameUp y x
    pub once : OnceIn i y x
    pub each : (p : ℕ) (z : Message C) → since ≤ p → p < place → slice_get y.sent p ≡ Some z →
        Q z.to ≡ true → Swapped p y x

-- Server i may stand or beat: it is up with a quorum of the n servers, its log is no older than
-- those of the others that are up, and none of these is in a later term.
pub record Ready {C : Type 0} (n i : ℕ) (w : World C) : Type 0 where
  pub less : i < n
  pub up : is_up_in w i ≡ true
  pub quorum : Quorum n (is_up_in w)
  pub best : HasBestLog n (is_up_in w) i w
  pub level : NobodyAhead n (is_up_in w) i w
  pub room : (s : Raft C) → slice_get w.servers i ≡ Some s → is_leader s.mode ≡ false →
      (s.term < MAX) × (length s.log < MAX)

-- From one world to another server i led its term at each moment, each other that is up was asked
-- and has answered, and has kept since what it had applied then.
pub record Rounded {S C : Type 0} (m : MachineSpec S C) (n i T : ℕ) (w v : World C) : Type 0 where
  pub peace : Peace m i T w v
  pub each : (k : ℕ) → k < n → is_up_in w k ≡ true → k ≢ i → Answered m i T k w v
  pub kept : (k : ℕ) (less : k < n) (up : is_up_in w k ≡ true) (other : k ≢ i) (s t : Raft C) →
      slice_get (each k less up other).after_request.servers k ≡ Some s →
      slice_get v.servers k ≡ Some t → s.commit ≤ t.commit

-- A round of server i, from one world to another: it leads then, and may go on; and if it led
-- before, it led on.
pub record Spread {S C : Type 0} (m : MachineSpec S C) (n i : ℕ) (w v : World C) : Type 0 where
  pub up : SameUp w v
  pub ready : Ready n i v
  pub once : OnceIn i w v
  pub term : ℕ
  pub leads : Leads v i term
  pub round : (T : ℕ) → Leads w i T → Rounded m n i T w v

-- whatever server i has in its log each server that is up has applied
abbrev pub AllApplied : {C : Type 0} → ℕ → World C → Type 0
AllApplied {C} i w = (me : Raft C) → slice_get w.servers i ≡ Some me →
    (j : ℕ) (s : Raft C) → slice_get w.servers j ≡ Some s → is_up s.mode ≡ true → length me.log ≤ s.commit

-- Server i led from one world to another, for so many rounds.
pub record Rounding {S C : Type 0} (m : MachineSpec S C) (n i : ℕ) (w : World C) (rounds : ℕ) (v : World C) : Type 0 where
  pub up : SameUp w v
  pub ready : Ready n i v
  pub once : OnceIn i w v
  pub term : ℕ
  pub leads_first : Leads w i term
  pub leads : Leads v i term
  pub so_far : Rounds m n (is_up_in w) i term w rounds v
  pub last : (rounds ≡ 0) ⊎ ((fewer : ℕ) × (z : World C) × (rounds ≡ suc fewer) × SameUp w z
      × Rounds m n (is_up_in w) i term w fewer z × Rounded m n i term z v)

-- From one world to another by these events: so many timeouts and beats of server i, and deliveries
-- of what was sent since.
pub record Way {S C : Type 0} (m : MachineSpec S C) (i : ℕ) (w : World C) (taken : List (Event C)) (timeouts beats : ℕ) (v : World C) : Type 0 where
  pub recovery : Recovery m i w timeouts beats v
  pub events : events_of m i w timeouts beats v recovery ≡ taken

-- The message at this place can be delivered, and its answer to server i.
pub record Swappable {S C : Type 0} (m : MachineSpec S C) (i place : ℕ) (x : World C) : Type 0 where
  pub first : World C
  pub second : World C
  pub delivered : happens m x (Deliver place) ≡ Ok first
  pub answer : Message C
  pub to_me : answer.to ≡ i
  pub answer_at : slice_get first.sent (length x.sent) ≡ Some answer
  pub heard : happens m first (Deliver (length x.sent)) ≡ Ok second

-- Server i beats, if it leads; else it stands.
pub data HasBeatOrTimedOut {S C : Type 0} (m : MachineSpec S C) (i : ℕ) (w : World C) : List (Event C) → ℕ → ℕ → World C → Type 0 where
  it_beats : {y : World C} (s : Raft C) → slice_get w.servers i ≡ Some s → is_leader s.mode ≡ true →
      happens m w (Beats i) ≡ Ok y → HasBeatOrTimedOut m i w (Beats i ∷ []) 0 1 y
  it_stands : {y : World C} (s : Raft C) → slice_get w.servers i ≡ Some s → is_leader s.mode ≡ false →
      happens m w (TimesOut i) ≡ Ok y → HasBeatOrTimedOut m i w (TimesOut i ∷ []) 1 0 y

-- Server i may be let stand: it is up with a quorum of the n servers, its log is no older than those
-- of the others that are up, and these have room for two more terms and entries.
pub record Chosen {C : Type 0} (n i : ℕ) (w : World C) : Type 0 where
  pub less : i < n
  pub up : is_up_in w i ≡ true
  pub quorum : Quorum n (is_up_in w)
  pub best : HasBestLog n (is_up_in w) i w
  pub room : HasRoom n (is_up_in w) w

-- server k is up, and none that is up is in a later term
pub record Highest {C : Type 0} (n k : ℕ) (w : World C) : Type 0 where
  pub less : k < n
  pub up : is_up_in w k ≡ true
  pub top : NobodyAhead n (is_up_in w) k w

-- server i is in an earlier term than server k
abbrev pub IsBehind : {C : Type 0} → ℕ → ℕ → World C → Type 0
IsBehind {C} i k w = (s z : Raft C) → slice_get w.servers i ≡ Some s → slice_get w.servers k ≡ Some z → s.term < z.term

-- From one world to another server i came to where it may go on, with the log that it had, by at
-- most one timeout and one beat.
pub record Risen {S C : Type 0} (m : MachineSpec S C) (n i : ℕ) (w : World C) (taken : List (Event C)) (v : World C) : Type 0 where
  pub up : SameUp w v
  pub ready : Ready n i v
  pub log : (s t : Raft C) → slice_get w.servers i ≡ Some s → slice_get v.servers i ≡ Some t → t.log ≡ s.log
  pub timeouts : ℕ
  pub beats : ℕ
  pub few_timeouts : timeouts ≤ 1
  pub few_beats : beats ≤ 1
  pub way : Way m i w taken timeouts beats v

-- where the message to server k stands among those that server i sent to all others
abbrev pub seat : ℕ → ℕ → ℕ
seat i k = if nat_lt i k then k - 1 else k

-- it came so far by timeouts and beats of server i, and deliveries
pub record Came {S C : Type 0} (m : MachineSpec S C) (i : ℕ) (taken : List (Event C)) (w v : World C) : Type 0 where
  pub timeouts : ℕ
  pub beats : ℕ
  pub way : Way m i w taken timeouts beats v

-- the event can happen, and this server takes it; it is no restart
pub record CanHappenAt {S C : Type 0} (m : MachineSpec S C) (e : Event C) (who : ℕ) (w : World C) : Type 0 where
  pub next : World C
  pub happens : happens m w e ≡ Ok next
  pub actor : acting_server m w e ≡ Some who
  pub other : IsRestart m e → ⊥

-- if the message at this place is for a server that is up, it can be delivered, and its answer
pub record CanSwap {S C : Type 0} (m : MachineSpec S C) (i place : ℕ) (x : World C) : Type 0 where
  pub message : Message C
  pub at : slice_get x.sent place ≡ Some message
  pub can : is_up_in x message.to ≡ true → Swappable m i place x

-- it was not for one that is up, or it was delivered and its answer was
pub data SwapDone {S C : Type 0} (m : MachineSpec S C) (place : ℕ) (x : World C) : List (Event C) → World C → Type 0 where
  not_up : (z : Message C) → slice_get x.sent place ≡ Some z → is_up_in x z.to ≡ false → SwapDone m place x [] x
  both : {v : World C} (first : World C) (z : Message C) → slice_get x.sent place ≡ Some z → is_up_in x z.to ≡ true →
      happens m x (Deliver place) ≡ Ok first → happens m first (Deliver (length x.sent)) ≡ Ok v →
      SwapDone m place x (Deliver place ∷ Deliver (length x.sent) ∷ []) v

-- what server i may do by itself can happen
pub record CanBeatOrTimeOut {S C : Type 0} (m : MachineSpec S C) (i : ℕ) (w : World C) : Type 0 where
  pub server : Raft C
  pub here : slice_get w.servers i ≡ Some server
  pub beats : is_leader server.mode ≡ true → (y : World C) × (happens m w (Beats i) ≡ Ok y)
  pub stands : is_leader server.mode ≡ false → (y : World C) × (happens m w (TimesOut i) ≡ Ok y)

pub record ActDone {S C : Type 0} (m : MachineSpec S C) (i : ℕ) (taken : List (Event C)) (w y : World C) : Type 0 where
  pub timeouts : ℕ
  pub beats : ℕ
  pub acted : HasBeatOrTimedOut m i w taken timeouts beats y

-- A round so far: the messages below this place were delivered, of those that were sent before `end`.
pub record SpreadSoFar {S C : Type 0} (m : MachineSpec S C) (i place end : ℕ) (taken : List (Event C)) (w x : World C) : Type 0 where
  pub opened : World C
  pub own : List (Event C)
  pub timeouts : ℕ
  pub beats : ℕ
  pub acted : HasBeatOrTimedOut m i w own timeouts beats opened
  pub ends : length opened.sent ≡ end
  pub going : Going m (is_up_in w) i (length w.sent) opened place x
  pub way : Way m i w taken timeouts beats x

-- server i leads at first, or not: so many timeouts and beats
abbrev pub RoundTakes : {C : Type 0} → ℕ → World C → ℕ → ℕ → Type 0
RoundTakes {C} i w timeouts beats = (s : Raft C) → slice_get w.servers i ≡ Some s →
    ((is_leader s.mode ≡ true) × (timeouts ≡ 0) × (beats ≡ 1)) ⊎ ((is_leader s.mode ≡ false) × (timeouts ≡ 1) × (beats ≡ 0))

-- a round and its events
pub record SpreadDone {S C : Type 0} (m : MachineSpec S C) (n i : ℕ) (taken : List (Event C)) (w v : World C) : Type 0 where
  pub spread : Spread m n i w v
  pub timeouts : ℕ
  pub beats : ℕ
  pub way : Way m i w taken timeouts beats v
  pub kind : RoundTakes i w timeouts beats

-- server i came to lead, by at most one timeout
pub record LedDone {S C : Type 0} (m : MachineSpec S C) (n i : ℕ) (taken : List (Event C)) (w v : World C) : Type 0 where
  pub up : SameUp w v
  pub ready : Ready n i v
  pub once : OnceIn i w v
  pub term : ℕ
  pub leads : Leads v i term
  pub timeouts : ℕ
  pub few : timeouts ≤ 1
  pub way : Way m i w taken timeouts 0 v

-- so many rounds of a leader, with a beat each
pub record ConfirmSoFar {S C : Type 0} (m : MachineSpec S C) (n i rounds : ℕ) (taken : List (Event C)) (w x : World C) : Type 0 where
  pub rounding : Rounding m n i w rounds x
  pub way : Way m i w taken 0 rounds x

-- a leader has all applied that it has, by so many beats
pub record AppliedDone {S C : Type 0} (m : MachineSpec S C) (i : ℕ) (taken : List (Event C)) (w v : World C) : Type 0 where
  pub up : SameUp w v
  pub once : OnceIn i w v
  pub term : ℕ
  pub leads : Leads v i term
  pub beats : ℕ
  pub few : (s : Raft C) → slice_get w.servers i ≡ Some s → beats ≤ 2 * length s.log + 2
  pub way : Way m i w taken 0 beats v
  pub applied : AllApplied i v

-- server i leads, and may go on
pub record Leading {C : Type 0} (n i : ℕ) (w : World C) : Type 0 where
  pub ready : Ready n i w
  pub term : ℕ
  pub leads : Leads w i term

-- the message at this place is for server k, which is up; it can be delivered, and its answer
pub record CanExchange {S C : Type 0} (m : MachineSpec S C) (i place k : ℕ) (x : World C) : Type 0 where
  pub message : Message C
  pub at : slice_get x.sent place ≡ Some message
  pub to : message.to ≡ k
  pub up : is_up_in x k ≡ true
  pub can : Swappable m i place x

-- server i is behind server k, which is in the greatest term
pub record CanObserveNewerTerm {C : Type 0} (n i k : ℕ) (w : World C) : Type 0 where
  pub chosen : Chosen n i w
  pub high : Highest n k w
  pub behind : IsBehind i k w
