-- Values with runs, whose part of the log is driven: servers of the log, or a whole group.
use Rattle.std.specs.Prelude.{◌≡◌, ℕ, ◌+◌, ◌<◌, ◌⊎◌, Some, None, List, [], ◌∷◌, ◌++◌, Ok, length, slice_get}
use Rattle.machine_model.specs.MachineSpec.{MachineSpec}
use Rattle.raft_model.specs.Rafts.{Raft}
use Rattle.raft_core.specs.RaftView.{RaftView}
use Rattle.raft_core.specs.Steps.{RefinesRaft}
use Rattle.raft_model.specs.Worlds.{World, Event, Deliver, TimesOut, Beats, Run, happens}
use Rattle.recovery.specs.declared.calm_event.CalmEvent.{CalmEvent}
use Rattle.recovery.specs.declared.calm_event.CalmEvent.TheVariants as calms
use Rattle.recovery.specs.declared.unsettled.Unsettled.{Unsettled}
use Rattle.recovery.specs.declared.unsettled.Unsettled.TheVariants.{NoQuorum, Exhausted, NoMemory, Crashed}
use Rattle.recovery.specs.Inner.Spreads.{Came, CanHappenAt}

-- What such values V are: the moments of their runs, and the events in their traces.
pub record Drive (V S C : Type 0) : Type 1 where
  pub Moment : Type 0
  pub Own : Type 0
  -- how many servers a value has, and its trace
  pub size : V → ℕ
  pub trace : V → List Own
  -- what calm events leave as it is
  pub Stays : V → V → Type 0
  -- a run of the value, through these moments to that one
  pub Runs : V → List Moment → Moment → Type 0
  -- the log's part of a moment, and how many messages were sent by then, whatever they are about
  pub log : Moment → World C
  pub sent : Moment → ℕ
  -- the message at the first place of all that were sent is that at the second of the log's
  pub At : Moment → ℕ → ℕ → Type 0
  -- An event makes the moment another one. It is this event of the log, and sends messages of the
  -- log alone.
  pub Step : Moment → Own → Event C → Moment → Type 0
  -- in place of an event for which it may have wanted memory, a server crashes
  pub Falls : Moment → ℕ → Own → Moment → Type 0

module _ {V S C : Type 0} (d : Drive V S C) where
  -- ---- where runs lead

  -- P holds of the moment that each run of the value leads to
  abbrev pub EverOf : V → (d.Moment → Type 0) → Type 0
  EverOf view P = (past : List d.Moment) (w : d.Moment) → d.Runs view past w → P w

  -- the same of the log's part
  abbrev pub Ever : V → (World C → Type 0) → Type 0
  Ever view P = EverOf view (λ w. P (d.log w))

  -- and of a place of the log, where the message at this place is one of the log
  abbrev pub EverAt : V → ℕ → (ℕ → World C → Type 0) → Type 0
  EverAt view place P = EverOf view (λ w. (p : ℕ) → d.At w place p → P p (d.log w))

  -- server k is there, and this value represents it
  abbrev pub StandsThere : MachineSpec S C → ℕ → RaftView S C → V → Type 0
  StandsThere m k h view =
      Ever view (λ w. (s : Raft C) × (slice_get w.servers k ≡ Some s) × RefinesRaft m h s)

  -- the group has no such server
  abbrev pub NoneThere : ℕ → V → Type 0
  NoneThere k view = Ever view (λ w. slice_get w.servers k ≡ None)

  pub record HasRun (view : V) : Type 0 where
    pub past : List d.Moment
    pub moment : d.Moment
    pub runs : d.Runs view past moment

  -- the value has a run, and P holds of where its runs lead
  pub record KnownOf (view : V) (P : d.Moment → Type 0) : Type 0 where
    pub past : List d.Moment
    pub moment : d.Moment
    pub runs : d.Runs view past moment
    pub ever : EverOf view P

  abbrev pub Known : V → (World C → Type 0) → Type 0
  Known view P = KnownOf view (λ w. P (d.log w))

  -- besides, the message at this place is one of the log
  abbrev pub KnownAt : V → ℕ → (ℕ → World C → Type 0) → Type 0
  KnownAt view place P = KnownOf view (λ w. (p : ℕ) × d.At w place p × P p (d.log w))

  -- ---- parts of a run

  -- from one moment to another by these events, which are those of the log
  pub data Trail (w : d.Moment) : List d.Own → List (Event C) → d.Moment → Type 0 where
    trail_here : Trail w [] [] w
    trail_on : {taken : List d.Own} {es : List (Event C)} {x : d.Moment}
        (e : d.Own) (f : Event C) (v : d.Moment) →
        Trail w taken es x → d.Step x e f v → Trail w (taken ++ e ∷ []) (es ++ f ∷ []) v

  -- so it was, and R tells of the log's events, and of its worlds before and after
  pub record Drove (taken : List d.Own) (w v : d.Moment)
      (R : List (Event C) → World C → World C → Type 0) : Type 0 where
    pub events : List (Event C)
    pub path : Trail w taken events v
    pub told : R events (d.log w) (d.log v)

  -- By these events, which its trace has, each run of the old value goes on to one of the new; R
  -- tells of its last moment before and after.
  pub record CarriesOn (old new : V) (taken : List d.Own) (R : d.Moment → d.Moment → Type 0)
      : Type 0 where
    pub size : d.size new ≡ d.size old
    pub stays : d.Stays old new
    pub trace : d.trace new ≡ d.trace old ++ taken
    pub runs : (past : List d.Moment) (w : d.Moment) → d.Runs old past w →
        (later : List d.Moment) × (v : d.Moment) × d.Runs new (past ++ later) v × R w v

  abbrev pub WentOf : V → V → (List d.Own → d.Moment → d.Moment → Type 0) → Type 0
  WentOf old new R = (taken : List d.Own) × CarriesOn old new taken (λ w v. R taken w v)

  -- the same of the log's part
  abbrev pub Went : V → V → (List (Event C) → World C → World C → Type 0) → Type 0
  Went old new R = WentOf old new (λ taken w v. Drove taken w v R)

  -- and of a place of the log, where the message at this place was one of the log
  abbrev pub WentAt : ℕ → V → V → (ℕ → List (Event C) → World C → World C → Type 0) → Type 0
  WentAt place old new R =
      WentOf old new (λ taken w v. (p : ℕ) → d.At w place p → Drove taken w v (R p))

  -- ---- one event

  -- in this moment the calm event is this one of the log
  abbrev pub IsOfLog : d.Moment → CalmEvent → Event C → Type 0
  IsOfLog w (calms.Timeout i) f = f ≡ TimesOut i
  IsOfLog w (calms.Beat i) f = f ≡ Beats i
  IsOfLog w (calms.Deliver place) f = (p : ℕ) × d.At w place p × (f ≡ Deliver p)

  -- it can happen, and this server takes it
  abbrev pub CanGo : MachineSpec S C → CalmEvent → ℕ → d.Moment → Type 0
  CanGo m event who w = (f : Event C) × IsOfLog w event f × CanHappenAt m f who (d.log w)

  -- it happened
  abbrev pub HasGone : CalmEvent → List d.Own → d.Moment → d.Moment → Type 0
  HasGone event taken w v = (f : Event C) → IsOfLog w event f → Trail w taken (f ∷ []) v

  -- ---- want of memory

  -- behind a part of the run that A tells of, a server crashed
  pub record FellAfter (A : List d.Own → d.Moment → d.Moment → Type 0) (who : ℕ)
      (taken : List d.Own) (w v : d.Moment) : Type 0 where
    pub before : d.Moment
    pub calm : List d.Own
    pub came : A calm w before
    pub event : d.Own
    pub falls : d.Falls before who event v
    pub taken_are : taken ≡ calm ++ event ∷ []

  -- memory was wanting behind a part of the run that A tells of
  abbrev pub Halts : (List d.Own → d.Moment → d.Moment → Type 0) → V → V → Unsettled → Type 0
  Halts A old new NoQuorum = ⊥
  Halts A old new Exhausted = ⊥
  Halts A old new NoMemory = WentOf old new A
  Halts A old new (Crashed who) = WentOf old new (λ taken w v. FellAfter A who taken w v)

  -- nothing happened yet
  abbrev pub NothingYet : List d.Own → d.Moment → d.Moment → Type 0
  NothingYet taken w v = (taken ≡ []) × (v ≡ w)

  -- memory was wanting for an event
  abbrev pub NotTaken : V → V → Unsettled → Type 0
  NotTaken old new why = Halts NothingYet old new why

  -- the message at this place was delivered, or nothing happened yet
  abbrev pub IsWithin : ℕ → List d.Own → d.Moment → d.Moment → Type 0
  IsWithin place taken w v =
      NothingYet taken w v ⊎ ((p : ℕ) → d.At w place p → Trail w taken (Deliver p ∷ []) v)

  -- memory was wanting for the delivery of the message at this place, or for that of the answer
  abbrev pub SwapStops : ℕ → V → V → Unsettled → Type 0
  SwapStops place old new why = Halts (IsWithin place) old new why

  -- it came so far by timeouts and beats of server i, and deliveries
  abbrev pub CameBy : MachineSpec S C → ℕ → List d.Own → d.Moment → d.Moment → Type 0
  CameBy m i taken w v = Drove taken w v (λ es x y. Came m i es x y)

  -- memory was wanting on the way
  abbrev pub Stops : MachineSpec S C → ℕ → V → V → Unsettled → Type 0
  Stops m i old new why = Halts (CameBy m i) old new why

-- What holds of all such values.
pub record LawfulDrive {V S C : Type 0} (m : MachineSpec S C) (d : Drive V S C) : Type 0 where
  -- a value has one run, which is one of the log
  pub one : (view : V) (past past2 : List d.Moment) (w w2 : d.Moment) →
      d.Runs view past w → d.Runs view past2 w2 → w ≡ w2
  pub run : (view : V) (past : List d.Moment) (w : d.Moment) → d.Runs view past w →
      (events : List (Event C)) × (before : List (World C)) ×
      Run m (d.size view) events before (d.log w)
  -- what stays
  pub stays_here : (view : V) → d.Stays view view
  pub stays_on : (a b c : V) → d.Stays a b → d.Stays b c → d.Stays a c
  -- a step is one of the log
  pub step_log : (w : d.Moment) (e : d.Own) (f : Event C) (v : d.Moment) → d.Step w e f v →
      happens m (d.log w) f ≡ Ok (d.log v)
  -- as many messages of the log are sent as messages at all, and they come last
  pub step_sent : (w : d.Moment) (e : d.Own) (f : Event C) (v : d.Moment) → d.Step w e f v →
      d.sent v + length (let x = d.log w in x.sent) ≡ d.sent w + length (let y = d.log v in y.sent)
  pub step_new : (w : d.Moment) (e : d.Own) (f : Event C) (v : d.Moment) → d.Step w e f v →
      (j : ℕ) → d.sent w + j < d.sent v →
      d.At v (d.sent w + j) (length (let x = d.log w in x.sent) + j)
  -- a message keeps its place, and has one
  pub at_one : (w : d.Moment) (q p p2 : ℕ) → d.At w q p → d.At w q p2 → p ≡ p2
  pub step_at : (w : d.Moment) (e : d.Own) (f : Event C) (v : d.Moment) → d.Step w e f v →
      (q p : ℕ) → d.At w q p → d.At v q p
